-- the masks are kept with the copies so far
use Rattle.worker_core.proofs.Masks.{AreKept}
use Rattle.worker_core.proofs.keeping.keep_each.Given as goal

abbrev pub invariant-loop-place : goal.invariant-loop-place
invariant-loop-place l = AreKept l.fn.replicas l.replicas l.users l.place
