-- What is gathered of the parts of a run that have run to their ends.
use Rattle.std.specs.Prelude.{◌≡◌, ◌++◌, map, flat_map, All}
use Rattle.gate_ends.specs.Done.{HasSentAll, HasServed, AreReports}
use Rattle.gate_ends.specs.declared.senders.Senders.{Senders}
use Rattle.gate_ends.specs.declared.senders.Left.{Left}

-- each has run to its end: the reports of the actors, the passes of the scripts and then of the workers, and the readers
-- of the workers, all in order
pub record Gathers {R E : Type 0} (all : Senders R E) (left : Left R) : Type 0 where
  pub reports : AreReports all.actors.items left.first left.second
  pub sent : All HasSentAll all.scripts.items
  pub served : All HasServed all.workers.items
  pub passes_are : left.passes.items ≡ map (λ e. e.passes) all.scripts.items ++ map (λ e. e.passes) all.workers.items
  pub readers_are : left.readers.items ≡ flat_map (λ e. e.readers.items) all.workers.items
