use Rattle.std.proofs.Common.{◌≡◌, drop}
use Rattle.edit_apply.specs.Edits.{state_from}
use Rattle.worker_core.proofs.look.apply_each.Given as goal

abbrev pub invariant-loop-entry : goal.invariant-loop-entry
invariant-loop-entry l = state_from l.guild (drop l.entry-index l.entries) ≡ state_from l.fn.guild l.entries
