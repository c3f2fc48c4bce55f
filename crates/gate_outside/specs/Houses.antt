-- What a house tells, and what its calls make of it.
use Rattle.std.specs.Prelude.{◌≡◌, ℕ, ◌<◌, ◌≤◌, List, Result, OnOk, OnErr, ⊤}
use Rattle.std.specs.declared.option.Option.{Option}
use Rattle.std.specs.declared.option.Option.TheVariants.{Some, None}
use Rattle.gate_outside.specs.declared.asked.Asked.{Asked}
use Rattle.gate_outside.specs.declared.asked.Asked.TheVariants as asked
use Rattle.gate_outside.specs.declared.back.Back.{Back}
use Rattle.gate_outside.specs.declared.back.Back.TheVariants as back
use Rattle.gate_outside.specs.declared.faults.Fault.{Fault}
use Rattle.gate_outside.specs.Causes.{Rose, FaultHasCause}
use Rattle.gate_outside.specs.Clocks.{ClockTale}
use Rattle.gate_outside.specs.Doors.{DoorTale}
use Rattle.gate_outside.specs.Told.{GrowsBy, ListsAsk}

-- a source that was put back: what was left in it, where it tells, and its count of faults
pub record ReturnedSource : Type 0 where
  pub left : Option (List ℕ)
  pub faults : ℕ

-- a door that was put back: what it tells, and its count of faults
pub record ReturnedDoor : Type 0 where
  pub tale : DoorTale
  pub faults : ℕ

abbrev pub returned_source : Option (List ℕ) → ℕ → ReturnedSource
returned_source left faults = record { left = left; faults = faults }

abbrev pub returned_door : DoorTale → ℕ → ReturnedDoor
returned_door tale faults = record { tale = tale; faults = faults }

-- what a house tells
pub record HouseTale : Type 0 where
  -- the bytes that a name has of its own, where it tells
  pub contents : List ℕ → Option (List ℕ)
  -- what it was asked for, in order, where it tells
  pub asks : Option (List Asked)
  -- the sources that were put back, in order, where it tells
  pub sources : Option (List ReturnedSource)
  -- the doors that were put back, in order, where it tells
  pub doors : Option (List ReturnedDoor)
  -- the clocks that were put back, in order, where it tells
  pub clocks : Option (List ClockTale)
  -- how often an ask for a source failed, or a source was put back that had failed
  pub source_faults : ℕ
  -- how often an ask for a door failed, or a door was put back that had failed
  pub door_faults : ℕ

-- what a dial tells of its house that is in none
abbrev pub no_house : HouseTale
no_house = record {
  contents = λ name. None;
  asks = None;
  sources = None;
  doors = None;
  clocks = None;
  source_faults = 0;
  door_faults = 0;
}

-- a house that tells gives a name's own bytes
abbrev pub GivesOwn : Option (List ℕ) → Option (List ℕ) → Type 0
GivesOwn None left = ⊤
GivesOwn (Some bytes) left = left ≡ Some bytes

-- nothing was put back, and each name has the bytes that it had
pub record KeepsParts (old new : HouseTale) : Type 0 where
  pub contents : new.contents ≡ old.contents
  pub sources : new.sources ≡ old.sources
  pub doors : new.doors ≡ old.doors
  pub clocks : new.clocks ≡ old.clocks

-- a call of `source`
pub record AsksSource {T : Type 0} (old new : HouseTale) (name : List ℕ) (result : Result T Fault) : Type 0 where
  pub asks : ListsAsk old.asks new.asks (asked.Source name) result
  pub cause : FaultHasCause old.source_faults new.source_faults result
  pub door_faults : new.door_faults ≡ old.door_faults
  pub parts : KeepsParts old new

-- a call of `door`
pub record AsksDoor {T : Type 0} (old new : HouseTale) (port accepts : ℕ) (result : Result T Fault) : Type 0 where
  pub asks : ListsAsk old.asks new.asks (asked.Door port accepts) result
  pub cause : FaultHasCause old.door_faults new.door_faults result
  pub source_faults : new.source_faults ≡ old.source_faults
  pub parts : KeepsParts old new

-- a call of `clock`; after out of memory all is as before
pub record AsksClock {T E : Type 0} (old new : HouseTale) (result : Result T E) : Type 0 where
  pub asks : OnOk result (GrowsBy old.asks new.asks asked.Clock)
  pub refused : OnErr result (new.asks ≡ old.asks)
  pub source_faults : new.source_faults ≡ old.source_faults
  pub door_faults : new.door_faults ≡ old.door_faults
  pub parts : KeepsParts old new

-- a count of faults rises exactly if what is put back had failed
pub record CountsFaults (old new faults : ℕ) : Type 0 where
  pub later : old ≤ new
  pub sound : faults ≡ 0 → new ≡ old
  pub faulty : 0 < faults → Rose old new

-- a source is put back
pub record PutsSource (old new : HouseTale) (source : ReturnedSource) : Type 0 where
  pub sources : GrowsBy old.sources new.sources source
  pub count : CountsFaults old.source_faults new.source_faults source.faults
  pub contents : new.contents ≡ old.contents
  pub asks : new.asks ≡ old.asks
  pub doors : new.doors ≡ old.doors
  pub clocks : new.clocks ≡ old.clocks
  pub door_faults : new.door_faults ≡ old.door_faults

-- a door is put back
pub record PutsDoor (old new : HouseTale) (door : ReturnedDoor) : Type 0 where
  pub doors : GrowsBy old.doors new.doors door
  pub count : CountsFaults old.door_faults new.door_faults door.faults
  pub contents : new.contents ≡ old.contents
  pub asks : new.asks ≡ old.asks
  pub sources : new.sources ≡ old.sources
  pub clocks : new.clocks ≡ old.clocks
  pub source_faults : new.source_faults ≡ old.source_faults

-- a clock is put back
pub record PutsClock (old new : HouseTale) (clock : ClockTale) : Type 0 where
  pub clocks : GrowsBy old.clocks new.clocks clock
  pub contents : new.contents ≡ old.contents
  pub asks : new.asks ≡ old.asks
  pub sources : new.sources ≡ old.sources
  pub doors : new.doors ≡ old.doors
  pub source_faults : new.source_faults ≡ old.source_faults
  pub door_faults : new.door_faults ≡ old.door_faults

module _ {S D C : Type 0} (source_of : S → ReturnedSource) (door_of : D → ReturnedDoor) (clock_of : C → ClockTale) where
  -- a call of `put_back`
  abbrev pub PutsBack : HouseTale → HouseTale → Back S D C → Type 0
  PutsBack old new (back.Source source) = PutsSource old new (source_of source)
  PutsBack old new (back.Door door) = PutsDoor old new (door_of door)
  PutsBack old new (back.Clock clock) = PutsClock old new (clock_of clock)
