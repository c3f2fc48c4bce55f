use Rattle.std.proofs.Common.{◌≡◌, ◌-◌, ◌≤◌, length, All}
use Rattle.std.specs.Vec.{vec_capacity}
use Rattle.gate_outside.specs.Clocks.{IsNewClock}
use Rattle.house_loans.specs.Clocks.{AsksClocks}
use Rattle.house_loans.proofs.clocks.lend_clocks.Given as goal

abbrev pub invariant-loop-house : goal.invariant-loop-house
invariant-loop-house g l = record {
  asks : AsksClocks (length l.clocks.items) (g.H.Dial.house_tale l.fn.house) (g.H.Dial.house_tale l.house);
  fresh : All (λ c. IsNewClock (g.H.Time.Clock.tale c)) l.clocks.items;
  most : length l.clocks.items ≤ l.count;
  room : l.count ≤ vec_capacity l.clocks;
  dial : g.H.Dial.tale l.house ≡ g.H.Dial.tale l.fn.house;
  dial_faults : g.H.Dial.faults l.house ≡ g.H.Dial.faults l.fn.house;
}

abbrev pub decreases-loop-house : goal.decreases-loop-house
decreases-loop-house g l = l.count - length l.clocks.items
