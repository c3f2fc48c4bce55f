use Rattle.std.proofs.Common.{◌≡◌, ◌+◌, drop}
use Rattle.std.specs.List.{fold}
use Rattle.serve_run.specs.Faults.{script_faults, sooner}
use Rattle.serve_run.proofs.faults.by_scripts.Given as goal

abbrev pub invariant-loop-script : goal.invariant-loop-script
invariant-loop-script l = record {
  file : l.file ≡ l.script-index;
  first : fold sooner l.first (script_faults (l.file + 1) (drop l.script-index l.scripts)) ≡ fold sooner l.fn.first (script_faults 1 l.fn.scripts);
}
