-- What clocks tell, and what their calls make of it.
use Rattle.std.specs.Prelude.{◌≡◌, ℕ, ◌-◌, ◌≤◌, min, List, length, slice_index, ⊤}
use Rattle.std.specs.declared.option.Option.{Option}
use Rattle.std.specs.declared.option.Option.TheVariants.{Some, None}
use Rattle.gate_outside.specs.Causes.{one_more}

-- the moments that a clock answers in order, the last of them again and again, and how many answers it has given
pub record Moments : Type 0 where
  pub moments : List ℕ
  pub answers : ℕ

-- what a clock tells
pub record ClockTale : Type 0 where
  -- its latest answer, 0 before the first
  pub latest : ℕ
  -- what it answers, where it tells
  pub moments : Option Moments

-- the moment with that number from 0, or the last where there are not so many
abbrev pub moment_at : List ℕ → ℕ → ℕ
moment_at moments n = slice_index moments (min n (length moments - 1))

-- an answer of a clock that tells is its next moment
abbrev pub IsNext : Option Moments → Option Moments → ℕ → Type 0
IsNext None new moment = new ≡ None
IsNext (Some m) new moment = (moment ≡ moment_at m.moments m.answers)
    × (new ≡ Some (record { moments = m.moments; answers = one_more m.answers }))

-- a call of `now_ms`
pub record Ticks (old new : ClockTale) (moment : ℕ) : Type 0 where
  pub later : old.latest ≤ moment
  pub latest : new.latest ≡ moment
  pub next : IsNext old.moments new.moments moment

-- a clock that tells has given no answer
abbrev pub HasAnsweredNone : Option Moments → Type 0
HasAnsweredNone None = ⊤
HasAnsweredNone (Some m) = m.answers ≡ 0

-- a clock before its first answer
pub record IsNewClock (tale : ClockTale) : Type 0 where
  pub latest : tale.latest ≡ 0
  pub answers : HasAnsweredNone tale.moments
