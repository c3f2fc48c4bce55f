-- The seats of the parts of a run at its stop flag.
use Rattle.std.specs.Prelude.{◌≡◌, ℕ}
use Rattle.atomic_table.specs.Seated.{TableId}
use Rattle.stop_flag.specs.Flags.{SeatState, new_seat, new_keeper}
use Rattle.run_stage.specs.Dealing.{AreFrom}
use Rattle.run_stage.specs.declared.seats.Seats.{Seats}

-- the seat with this number, by which nobody has set the flag or looked
abbrev pub IsSeatOf : TableId → ℕ → SeatState → Type 0
IsSeatOf flag number seat = seat ≡ new_seat flag number

-- of so many seats, of which none has ended, so many are left, from the one with the number `first` on
pub record HasSeats (all first count : ℕ) (seats : Seats) : Type 0 where
  pub keeper_is : seats.keeper ≡ new_keeper seats.keeper.flag all
  pub left_are : AreFrom (IsSeatOf seats.keeper.flag) first count seats.left.items
