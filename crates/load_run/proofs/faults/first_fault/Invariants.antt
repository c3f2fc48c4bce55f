use Rattle.std.proofs.Common.{◌≡◌, map, drop}
use Rattle.std.specs.List.{fold}
use Rattle.load_run.specs.Faults.{fault_of, sooner, first_fault}
use Rattle.load_run.proofs.faults.first_fault.Given as goal

abbrev pub invariant-loop-done : goal.invariant-loop-done
invariant-loop-done g l = fold sooner l.first (map fault_of (drop l.done-index l.dones)) ≡ first_fault l.fn.started l.fn.dones
