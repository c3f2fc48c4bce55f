use Rattle.std.proofs.Common.{[], ◌∷◌, length}
use Rattle.gate_ends.specs.Done.{HasSentAll}
use Rattle.gate_ends.proofs.Popped.{Passed}
use Rattle.gate_ends.proofs.senders.add_scripts.Given as goal

abbrev pub invariant-loop-end : goal.invariant-loop-end
invariant-loop-end g l = Passed HasSentAll (λ e. e.passes ∷ []) l.fn.scripts.items l.scripts.items l.fn.passes.items l.passes.items

abbrev pub decreases-loop-end : goal.decreases-loop-end
decreases-loop-end g l = length l.scripts.items
