-- What a clause sees of a flag and of its seats.
use Rattle.std.specs.Prelude.{◌≡◌, ℕ, ◌+◌, Bool, true, false, List, [], ◌∷◌, ◌++◌, Option, Some, None}
use Rattle.atomic_table.specs.Seated.{TableId}
use Rattle.stop_flag.specs.declared.seat_end.SeatEnd.{SeatEnd}
use Rattle.stop_flag.specs.declared.flag_view.FlagView.{FlagView}
use Rattle.stop_flag.specs.FlagRule.{WasUnset}

-- a part's seat: its flag, its number there, whether it has set the flag, the seat by which it has found it set, and how often it has looked
pub record SeatState : Type 0 where
  pub flag : TableId
  pub number : ℕ
  pub has_set : Bool
  pub found : Option ℕ
  pub looks : ℕ

-- the keeper: its flag, how many seats there are, and what those told that have ended, in the order of their ends
pub record KeeperState : Type 0 where
  pub flag : TableId
  pub seats : ℕ
  pub ended : List SeatEnd

abbrev pub new_seat : TableId → ℕ → SeatState
new_seat flag number = record { flag = flag; number = number; has_set = false; found = None; looks = 0 }

abbrev pub new_keeper : TableId → ℕ → KeeperState
new_keeper flag seats = record { flag = flag; seats = seats; ended = [] }

abbrev pub with_seat : KeeperState → KeeperState
with_seat k = record { flag = k.flag; seats = k.seats + 1; ended = k.ended }

abbrev pub after_set : SeatState → SeatState
after_set s = record { flag = s.flag; number = s.number; has_set = true; found = s.found; looks = s.looks }

-- the seat after a look that found the flag not set
abbrev pub after_look : SeatState → SeatState
after_look s = record { flag = s.flag; number = s.number; has_set = s.has_set; found = s.found; looks = s.looks + 1 }

-- the seat after a look that found the flag set by that seat
abbrev pub after_finding : SeatState → ℕ → SeatState
after_finding s by = record { flag = s.flag; number = s.number; has_set = s.has_set; found = Some by; looks = s.looks + 1 }

abbrev pub end_of : SeatState → SeatEnd
end_of s = record { number = s.number; has_set = s.has_set; found = s.found }

abbrev pub after_join : KeeperState → SeatState → KeeperState
after_join k s = record { flag = k.flag; seats = k.seats; ended = k.ended ++ end_of s ∷ [] }

-- At one step the flag was not set, and the seat had then looked so often. A look counts itself, so this is a step of that very look.
abbrev pub WasNotSet : SeatState → Type 0
WasNotSet s = (view : FlagView) × (view.sits ≡ true) × (view.number ≡ s.number) × (view.looks ≡ s.looks) × WasUnset view
