-- What a house was asked for, one part after another.
use Rattle.std.specs.Prelude.{◌≡◌, ℕ, ◌+◌, ◌<◌, List, ◌++◌, length, take, Result, Ok, Err, OnOk, OnErr}
use Rattle.std.specs.declared.option.Option.{Option}
use Rattle.std.specs.declared.option.Option.TheVariants.{Some, None}
use Rattle.gate_outside.specs.declared.asked.Asked.{Asked}
use Rattle.gate_outside.specs.declared.faults.Fault.{Fault}
use Rattle.gate_outside.specs.declared.faults.Fault.TheVariants.{Failed, Memory}
use Rattle.gate_outside.specs.Houses.{HouseTale, KeepsParts}

-- a list that is told grows by these at its end, and one that is not told stays so
abbrev pub GrowsByAll : {A : Type 0} → Option (List A) → Option (List A) → List A → Type 0
GrowsByAll None new more = new ≡ None
GrowsByAll (Some old) None more = ⊥
GrowsByAll (Some old) (Some new) more = new ≡ old ++ more

-- how many parts were asked for, where so many were given: one that failed was asked for too
abbrev pub asked_for : {T : Type 0} → ℕ → Result T Fault → ℕ
asked_for given (Ok done) = given
asked_for given (Err Failed) = given + 1
asked_for given (Err Memory) = given

-- these parts are asked for in order, until one is not given; so many were given
pub record AsksInOrder {T : Type 0} (all : List Asked) (given : ℕ) (old new : HouseTale) (result : Result T Fault) : Type 0 where
  pub each : OnOk result (given ≡ length all)
  pub fewer : OnErr result (given < length all)
  pub asks : GrowsByAll old.asks new.asks (take (asked_for given result) all)
  pub parts : KeepsParts old new
