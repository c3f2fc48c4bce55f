use Rattle.std.proofs.Common.{◌≡◌, take}
use Rattle.log_entry.proofs.sharing.shared.Given as goal

abbrev pub invariant-loop-entry : goal.invariant-loop-entry
invariant-loop-entry l = l.shared.items ≡ take l.entry-index l.entries
