-- Doors that a house lends and takes back.
use Rattle.std.specs.Prelude.{◌≡◌, ℕ, List, length, map, All, Result}
use Rattle.std.specs.List.{range_with_len, sum}
use Rattle.gate_outside.specs.declared.asked.Asked.{Asked}
use Rattle.gate_outside.specs.declared.asked.Asked.TheVariants as asked
use Rattle.gate_outside.specs.declared.faults.Fault.{Fault}
use Rattle.gate_outside.specs.Causes.{FaultHasCause}
use Rattle.gate_outside.specs.Doors.{DoorTale, IsNewDoor}
use Rattle.gate_outside.specs.Houses.{HouseTale, ReturnedDoor, CountsFaults}
use Rattle.house_loans.specs.Loans.{GrowsByAll, AsksInOrder}

-- the doors at so many ports, from the first on
abbrev pub doors_from : (port count accepts : ℕ) → List Asked
doors_from port count accepts = map (λ at. asked.Door at accepts) (range_with_len port count)

-- the counts of faults of doors that are put back
abbrev pub door_counts : List ReturnedDoor → List ℕ
door_counts back = map (λ d. d.faults) back

module _ {D : Type 0} (tale : D → DoorTale) (faults : D → ℕ) where
  -- doors at so many ports are asked for in order, until one is not given; each that is given is new
  pub record LendsDoors (port count accepts : ℕ) (old new : HouseTale) (doors : List D) (result : Result (Unit {0}) Fault) : Type 0 where
    pub lends : AsksInOrder (doors_from port count accepts) (length doors) old new result
    pub fresh : All (λ d. IsNewDoor accepts (tale d) (faults d)) doors
    pub cause : FaultHasCause old.door_faults new.door_faults result
    pub source_faults : new.source_faults ≡ old.source_faults

-- these doors were put back, and nothing else
pub record PutsDoors (back : List ReturnedDoor) (old new : HouseTale) : Type 0 where
  pub doors : GrowsByAll old.doors new.doors back
  pub count : CountsFaults old.door_faults new.door_faults (sum (door_counts back))
  pub contents : new.contents ≡ old.contents
  pub asks : new.asks ≡ old.asks
  pub sources : new.sources ≡ old.sources
  pub clocks : new.clocks ≡ old.clocks
  pub source_faults : new.source_faults ≡ old.source_faults
