use Rattle.std.proofs.Common.{◌≡◌, drop}
use Rattle.std.specs.List.{fold}
use Rattle.serve_run.specs.Faults.{worker_faults, sooner}
use Rattle.serve_run.proofs.faults.by_workers.Given as goal

abbrev pub invariant-loop-worker : goal.invariant-loop-worker
invariant-loop-worker l = fold sooner l.first (worker_faults (drop l.worker-index l.workers)) ≡ fold sooner l.fn.first (worker_faults l.fn.workers)
