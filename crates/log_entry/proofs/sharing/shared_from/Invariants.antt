use Rattle.std.proofs.Common.{◌≡◌, ◌++◌, drop}
use Rattle.log_entry.proofs.sharing.shared_from.Given as goal

abbrev pub invariant-loop-place : goal.invariant-loop-place
invariant-loop-place l = l.shared.items ++ drop l.place l.entries.items ≡ drop l.from l.entries.items
