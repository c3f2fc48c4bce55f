use Rattle.std.proofs.Common.{[], ◌∷◌, length}
use Rattle.gate_ends.specs.Done.{HasServed}
use Rattle.gate_ends.proofs.Popped.{Passed}
use Rattle.gate_ends.proofs.senders.add_workers.Given as goal

abbrev pub invariant-loop-end : goal.invariant-loop-end
invariant-loop-end l = record {
  passes : Passed HasServed (λ e. e.passes ∷ []) l.fn.workers.items l.workers.items l.fn.passes.items l.passes.items;
  readers : Passed HasServed (λ e. e.readers.items) l.fn.workers.items l.workers.items l.fn.readers.items l.readers.items;
}

abbrev pub decreases-loop-end : goal.decreases-loop-end
decreases-loop-end l = length l.workers.items
