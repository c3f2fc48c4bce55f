-- What the seats that have ended tell of a flag.
use Rattle.std.specs.Prelude.{◌≡◌, ℕ, ◌<◌, true, false, List, Some, None}
use mathlib.Core.Option.{some}
use lib.ListN.{get_elem?}
use Rattle.stop_flag.specs.declared.seat_end.SeatEnd.{SeatEnd}

-- What they tell fits: each found the flag set by one of the seats, and if that one has ended too, it has set the flag.
pub record IsFair (seats : ℕ) (ended : List SeatEnd) : Type 0 where
  pub low : (k by : ℕ) (e : SeatEnd) → get_elem? ended k ≡ some e → e.found ≡ Some by → by < seats
  pub set : (j k : ℕ) (e f : SeatEnd) → get_elem? ended j ≡ some e → get_elem? ended k ≡ some f → e.found ≡ Some f.number → f.has_set ≡ true

-- Every seat has ended.
abbrev pub HaveEnded : ℕ → List SeatEnd → Type 0
HaveEnded seats ended = (number : ℕ) → number < seats → (k : ℕ) × (e : SeatEnd) × (get_elem? ended k ≡ some e) × (e.number ≡ number)

-- None of them has set the flag.
abbrev pub NoneHasSet : List SeatEnd → Type 0
NoneHasSet ended = (k : ℕ) (e : SeatEnd) → get_elem? ended k ≡ some e → e.has_set ≡ false

-- None of them has found the flag set.
abbrev pub NoneHasFound : List SeatEnd → Type 0
NoneHasFound ended = (k : ℕ) (e : SeatEnd) → get_elem? ended k ≡ some e → e.found ≡ None
