-- the viewers of the sessions so far
use Rattle.std.proofs.Common.{map, take}
use Rattle.worker_core.proofs.recipients.Recipients.are_of.Given as goal
use Rattle.worker_core.specs.Recipients.{Picks, viewer_of}

abbrev pub invariant-loop-index : goal.invariant-loop-index
invariant-loop-index l = Picks l.self.viewers.items (take l.index l.self.whose.items) (map viewer_of (take l.index l.sessions.sessions))
