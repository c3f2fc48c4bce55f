use Rattle.std.proofs.Common.{◌≡◌, ◌≤◌, length, All}
use Rattle.std.specs.Vec.{vec_capacity}
use Rattle.gate_outside.specs.Doors.{IsNewDoor}
use Rattle.house_loans.specs.Doors.{doors_from}
use Rattle.house_loans.proofs.Lending.{HasLent}
use Rattle.house_loans.proofs.doors.lend_doors.Given as goal

abbrev pub invariant-loop-index : goal.invariant-loop-index
invariant-loop-index g l =
    let old = g.H.Dial.house_tale l.fn.house in
    let now = g.H.Dial.house_tale l.house in
    record {
      many : length l.doors.items ≡ l.index;
      room : l.count ≤ vec_capacity l.doors;
      lent : HasLent (doors_from l.port l.count l.accepts) l.index old now;
      fresh : All (λ d. IsNewDoor l.accepts (g.H.Gate.Door.tale d) (g.H.Gate.Door.faults d)) l.doors.items;
      source_faults : now.source_faults ≡ old.source_faults;
      door_faults : now.door_faults ≡ old.door_faults;
      dial : g.H.Dial.tale l.house ≡ g.H.Dial.tale l.fn.house;
      dial_faults : g.H.Dial.faults l.house ≡ g.H.Dial.faults l.fn.house;
    }
