-- the viewers of the sessions so far
use Rattle.std.proofs.Common.{map, take}
use Rattle.worker_core.proofs.recipients.viewers_of.Given as goal
use Rattle.worker_core.specs.Recipients.{Picks, viewer_of}

abbrev pub invariant-loop-index : goal.invariant-loop-index
invariant-loop-index l = Picks l.viewers.items l.whose.items (map viewer_of (take l.index l.sessions.sessions))
