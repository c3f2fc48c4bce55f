-- How a part of a run ended.
use Rattle.std.specs.Prelude.{Bool, true, false, Result, is_err}
use Rattle.gate_parts.specs.declared.ending.Ending.{Ending}
use Rattle.gate_parts.specs.declared.ending.Ending.TheVariants.{Ran, Stopped}

module _ {T E : Type 0} where
  -- whether the part ran and ended by a fault
  abbrev pub has_failed : Ending (Result T E) → Bool
  has_failed (Ran result) = is_err result
  has_failed Stopped = false

  -- whether the part stopped before it began
  abbrev pub has_stopped : Ending (Result T E) → Bool
  has_stopped (Ran result) = false
  has_stopped Stopped = true
