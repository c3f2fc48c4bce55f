-- When a fault of the outside may be told: an object counts its faults, and a caller who is told of
-- one can see that the count rose.
use Rattle.std.specs.Prelude.{◌≡◌, ℕ, ◌+◌, ◌-◌, ◌^◌, ◌≤◌, min, Result, Ok, Err, OnOk, OnErr, IsErrOf}
use Rattle.gate_outside.specs.declared.faults.Fault.{Fault}
use Rattle.gate_outside.specs.declared.faults.Fault.TheVariants.{Failed, Memory}

-- one more fault: a count stays at the last value of a `u64`
abbrev pub one_more : ℕ → ℕ
one_more count = min (count + 1) (2 ^ 64 - 1)

-- the count has risen; at its last value each further fault still counts as a rise
abbrev pub Rose : ℕ → ℕ → Type 0
Rose before now = one_more before ≤ now

-- one fault is counted where the call failed, and none where it did not
abbrev pub count_after : {T E : Type 0} → ℕ → Result T E → ℕ
count_after count (Ok value) = count
count_after count (Err fault) = one_more count

-- a call that does nothing but fail, and counts that once
abbrev pub FailsOnce : {T : Type 0} → ℕ → ℕ → Result T Fault → Type 0
FailsOnce before now result = (result ≡ Err Failed) × (now ≡ one_more before)

-- a call that answers `Failed` or a value: the count rises exactly if it failed
pub record HasCause {T E : Type 0} (before now : ℕ) (result : Result T E) : Type 0 where
  pub later : before ≤ now
  pub failed : OnErr result (Rose before now)
  pub ok : OnOk result (now ≡ before)

-- a call that answers a `Fault` or a value: the count rises exactly if the object failed
pub record FaultHasCause {T : Type 0} (before now : ℕ) (result : Result T Fault) : Type 0 where
  pub later : before ≤ now
  pub failed : IsErrOf result Failed → Rose before now
  pub memory : IsErrOf result Memory → now ≡ before
  pub ok : OnOk result (now ≡ before)
