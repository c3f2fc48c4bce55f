use Rattle.std.proofs.Common.{[], ◌∷◌, length}
use Rattle.gate_ends.proofs.Popped.{Passed, Anything}
use Rattle.gate_ends.proofs.senders.add_readers.Given as goal

abbrev pub invariant-loop-reader : goal.invariant-loop-reader
invariant-loop-reader l = Passed Anything (λ r. r ∷ []) l.fn.more.items l.more.items l.fn.readers.items l.readers.items

abbrev pub decreases-loop-reader : goal.decreases-loop-reader
decreases-loop-reader l = length l.more.items
