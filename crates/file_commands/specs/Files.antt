-- The one file that a command asks a house for by its name.
use Rattle.std.specs.Prelude.{◌≡◌, ◌⊎◌, ℕ, List, Result, Err, Option as Maybe, None as Nothing}
use Rattle.std.specs.declared.option.Option.{Option}
use Rattle.gate_outside.specs.declared.asked.Asked.{Asked}
use Rattle.gate_outside.specs.declared.asked.Asked.TheVariants as ask
use Rattle.gate_outside.specs.Houses.{HouseTale, ReturnedSource, returned_source, GivesOwn}
use Rattle.gate_outside.specs.Told.{GrowsBy}

-- no source was given, and nothing was written or put back; `read` and `memory` are the faults that say so
abbrev pub NotGiven : {E : Type 0} → (read memory : E) → (returned0 returned1 : Option (List ReturnedSource)) (got0 got1 : Option (List ℕ)) → Result (Unit {0}) E → Type 0
NotGiven read memory returned0 returned1 got0 got1 answer = (returned1 ≡ returned0) × (got1 ≡ got0) × ((answer ≡ Err read) ⊎ (answer ≡ Err memory))

-- a source of these bytes was given, and put back; `Takes` says what was taken from it, by what it had before and after
abbrev pub Given : Option (List ℕ) → (returned0 returned1 : Option (List ReturnedSource)) → (Takes : (left0 left1 : Option (List ℕ)) → Type 0) → Type 0
Given own returned0 returned1 Takes =
    (left0 left1 : Option (List ℕ)) × ((faults : ℕ) × (GivesOwn own left0 × Takes left0 left1 × GrowsBy returned0 returned1 (returned_source left1 faults)))

abbrev pub TakesFile : {E : Type 0} → (read memory : E) → Option (List ℕ) → (returned0 returned1 : Option (List ReturnedSource)) (got0 got1 : Option (List ℕ))
    → (Takes : (left0 left1 : Option (List ℕ)) → Type 0) → Result (Unit {0}) E → Type 0
TakesFile read memory own returned0 returned1 got0 got1 Takes answer =
    NotGiven read memory returned0 returned1 got0 got1 answer ⊎ Given own returned0 returned1 Takes

-- the file was asked for once, or memory ran out before
abbrev pub AsksForFile : {E : Type 0} → (memory : E) → (asks0 asks1 : Option (List Asked)) → List ℕ → Result (Unit {0}) E → Type 0
AsksForFile memory asks0 asks1 file answer = GrowsBy asks0 asks1 (ask.Source file) ⊎ ((asks1 ≡ asks0) × (answer ≡ Err memory))

-- no door and no clock was put back, no door failed, and each name has the bytes that it had
pub record LeavesRest (old new : HouseTale) : Type 0 where
  pub contents : new.contents ≡ old.contents
  pub doors : new.doors ≡ old.doors
  pub clocks : new.clocks ≡ old.clocks
  pub door_faults : new.door_faults ≡ old.door_faults

-- the fault is told, unless memory ran out before the command began
abbrev pub TellsFault : {F : Type 0} → (told fault : Maybe F) → (ran_out : Type 0) → Type 0
TellsFault told fault ran_out = (told ≡ fault) ⊎ ((told ≡ Nothing) × ran_out)
