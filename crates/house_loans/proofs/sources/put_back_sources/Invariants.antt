use Rattle.std.proofs.Common.{◌≡◌, length, reverse}
use Rattle.gate_outside.specs.Houses.{returned_source}
use Rattle.house_loans.proofs.Returned.{ReturnsSources}
use Rattle.house_loans.proofs.sources.put_back_sources.Given as goal

abbrev pub invariant-loop-source : goal.invariant-loop-source
invariant-loop-source g l = record {
  returns : ReturnsSources (λ s. returned_source (g.H.In.Source.left s) (g.H.In.Source.faults s)) l.fn.sources.items (reverse l.sources.items) (g.H.Dial.house_tale l.fn.house) (g.H.Dial.house_tale l.house);
  dial : g.H.Dial.tale l.house ≡ g.H.Dial.tale l.fn.house;
  dial_faults : g.H.Dial.faults l.house ≡ g.H.Dial.faults l.fn.house;
}

abbrev pub decreases-loop-source : goal.decreases-loop-source
decreases-loop-source g l = length l.sources.items
