-- internal: cited by private functions, and by `WasNotSet`. The rule of the flag: its word names a seat that has set it.
use Rattle.std.specs.Prelude.{◌≡◌, ◌≢◌, ℕ, zero, suc, ◌<◌, ◌≤◌, ◌+◌, Bool, true, false, List, [], ◌∷◌, ◌++◌, length, slice_index, Option, Some, None}
use mathlib.Core.Option.{some}
use lib.ListN.{get_elem?}
use Rattle.atomic_table.specs.Table.{State, Me, Step}
use Rattle.stop_flag.specs.declared.seat_end.SeatEnd.{SeatEnd}
use Rattle.stop_flag.specs.Ended.{IsFair}
use Rattle.stop_flag.specs.declared.flag_view.FlagView.{FlagView}

-- the keeper's view
abbrev pub keeping : ℕ → List SeatEnd → FlagView
keeping seats ended = record { keeps = true; seats = seats; ended = ended; sits = false; number = 0; has_set = false; found = None; looks = 0 }

-- a part's view
abbrev pub sitting : ℕ → Bool → Option ℕ → ℕ → FlagView
sitting number has_set found looks = record { keeps = false; seats = 0; ended = []; sits = true; number = number; has_set = has_set; found = found; looks = looks }

-- the keeper before there is a seat
abbrev pub no_seats : FlagView
no_seats = keeping 0 []

-- a seat that has ended
abbrev pub no_seat : FlagView
no_seat = record { keeps = false; seats = 0; ended = []; sits = false; number = 0; has_set = false; found = None; looks = 0 }

-- the keeper and the seat after the keeper made the next seat
abbrev pub with_seat : FlagView → FlagView
with_seat v = keeping (v.seats + 1) v.ended

abbrev pub new_seat : FlagView → FlagView
new_seat v = sitting v.seats false None 0

abbrev pub setting : FlagView → FlagView
setting v = sitting v.number true v.found v.looks

-- the seat after a look, and what the word was
abbrev pub finding : FlagView → ℕ → FlagView
finding v zero = sitting v.number v.has_set v.found (v.looks + 1)
finding v (suc by) = sitting v.number v.has_set (Some by) (v.looks + 1)

-- the keeper, which knows now what the seat told
abbrev pub knowing : FlagView → FlagView → FlagView
knowing v u = keeping v.seats (v.ended ++ record { number = u.number; has_set = u.has_set; found = u.found } ∷ [])

abbrev pub Slot : Type 0
Slot = Unit {0}

-- the seat that is named has set the flag
abbrev pub Names : ℕ → (ℕ → Bool) → ℕ → Type 0
Names seats setters by = (by < seats) × (setters by ≡ true)

-- Each seat has a place in `views`: the keeper has the place `keeper_at`, the seat of number n has the place `seat_at n`, and the keeper's once it has ended. `setters` tells who has set the flag.
pub record KeepsFlag (s : State Slot FlagView) : Type 0 where
  pub keeper_at : ℕ
  pub seats : ℕ
  pub seat_at : ℕ → ℕ
  pub ended : List SeatEnd
  pub setters : ℕ → Bool
  pub one : length s.words ≡ 1
  pub word : (by : ℕ) → slice_index s.words 0 ≡ suc by → Names seats setters by
  pub unmade : (n : ℕ) → seats ≤ n → setters n ≡ false
  pub sits : (j : ℕ) (v : FlagView) → get_elem? s.views j ≡ some v → v.sits ≡ true
      → (seat_at v.number ≡ j) × (j ≢ keeper_at) × (v.number < seats) × (v.has_set ≡ setters v.number) × ((by : ℕ) → v.found ≡ Some by → Names seats setters by)
  pub keeps : (j : ℕ) (v : FlagView) → get_elem? s.views j ≡ some v → v.keeps ≡ true → (j ≡ keeper_at) × (v.seats ≡ seats) × (v.ended ≡ ended)
  pub ends : (k : ℕ) (e : SeatEnd) → get_elem? ended k ≡ some e
      → (seat_at e.number ≡ keeper_at) × (e.number < seats) × (e.has_set ≡ setters e.number) × ((by : ℕ) → e.found ≡ Some by → Names seats setters by)

abbrev pub Sat : Type 0
Sat = Me Slot FlagView

-- the seat sets the flag
abbrev pub Sets : Step Slot → Sat → ℕ → Sat → Type 0
Sets st m n k = k ≡ (setting m.0, m.1)

-- At one step the flag was not set, and the seat's view was this.
abbrev pub WasUnset : FlagView → Type 0
WasUnset v = (s : State Slot FlagView) × (seat : ℕ) × KeepsFlag s × (get_elem? s.views seat ≡ some v) × (slice_index s.words 0 ≡ 0)

-- the seat finds what the word is
abbrev pub Finds : Step Slot → Sat → ℕ → Sat → Type 0
Finds st m n k = (k ≡ (finding m.0 n, m.1)) × (n ≡ 0 → WasUnset k.0)

-- What the keeper knows of the seats that have ended fits.
abbrev pub Agrees : Step Slot → Sat → ℕ → Sat → Type 0
Agrees st m n k = (k ≡ m) × IsFair m.0.seats m.0.ended
