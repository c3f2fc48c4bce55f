use Rattle.std.proofs.Common.{◌≡◌, length, reverse}
use Rattle.gate_outside.specs.Houses.{returned_door}
use Rattle.house_loans.proofs.Returned.{ReturnsDoors}
use Rattle.house_loans.proofs.doors.put_back_doors.Given as goal

abbrev pub invariant-loop-door : goal.invariant-loop-door
invariant-loop-door g l = record {
  returns : ReturnsDoors (λ d. returned_door (g.H.Gate.Door.tale d) (g.H.Gate.Door.faults d)) l.fn.doors.items (reverse l.doors.items) (g.H.Dial.house_tale l.fn.house) (g.H.Dial.house_tale l.house);
  dial : g.H.Dial.tale l.house ≡ g.H.Dial.tale l.fn.house;
  dial_faults : g.H.Dial.faults l.house ≡ g.H.Dial.faults l.fn.house;
}

abbrev pub decreases-loop-door : goal.decreases-loop-door
decreases-loop-door g l = length l.doors.items
