-- none of the sessions so far
use Rattle.std.proofs.Common.{◌≡◌, false, take}
use Rattle.worker_core.specs.Masks.{has_kept_session}
use Rattle.worker_core.proofs.keeping.has_session.Given as goal

abbrev pub invariant-loop-index : goal.invariant-loop-index
invariant-loop-index l = has_kept_session (take l.index l.sessions.sessions) l.user l.guild ≡ false
