-- What the seats of parts tell of the stop flag.
use Rattle.std.specs.Prelude.{◌≡◌, ℕ, Bool, true, false, ◌||◌, Option, Some}
use Rattle.stop_flag.specs.Flags.{SeatState}

-- by whom a seat has found the flag set: by some seat if its part stopped, and else as before
abbrev pub FoundBy : Bool → Option ℕ → Option ℕ → Type 0
FoundBy true old new = (by : ℕ) × (new ≡ Some by)
FoundBy false old new = new ≡ old

-- It is the same seat, which has set the flag exactly if its part failed, or if it had set it before. It has found the flag set if the part stopped.
pub record SeatEnds (failed stopped : Bool) (old new : SeatState) : Type 0 where
  pub flag : new.flag ≡ old.flag
  pub number : new.number ≡ old.number
  pub has_set : new.has_set ≡ (failed || old.has_set)
  pub found : FoundBy stopped old.found new.found
