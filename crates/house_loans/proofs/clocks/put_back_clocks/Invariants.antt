use Rattle.std.proofs.Common.{◌≡◌, length, reverse}
use Rattle.house_loans.proofs.Returned.{ReturnsClocks}
use Rattle.house_loans.proofs.clocks.put_back_clocks.Given as goal

abbrev pub invariant-loop-clock : goal.invariant-loop-clock
invariant-loop-clock g l = record {
  returns : ReturnsClocks g.H.Time.Clock.tale l.fn.clocks.items (reverse l.clocks.items) (g.H.Dial.house_tale l.fn.house) (g.H.Dial.house_tale l.house);
  dial : g.H.Dial.tale l.house ≡ g.H.Dial.tale l.fn.house;
  dial_faults : g.H.Dial.faults l.house ≡ g.H.Dial.faults l.fn.house;
}

abbrev pub decreases-loop-clock : goal.decreases-loop-clock
decreases-loop-clock g l = length l.clocks.items
