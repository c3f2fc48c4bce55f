-- Seats that are dealt.
use Rattle.std.proofs.Common.{◌≡◌, ℕ, ◌+◌, ◌<◌, ◌∷◌, length, sym, ap, subst, ◌∙◌}
use Rattle.stop_flag.specs.Flags.{SeatState, new_keeper}
use Rattle.run_stage.specs.declared.seats.Seats.{Seats}
use Rattle.run_stage.specs.Dealing.{AreFrom}
use Rattle.run_stage.specs.Seats.{IsSeatOf, HasSeats}
use Rattle.run_stage.proofs.Numbered.{first_of, some_left}

-- there is a seat
pub seat_left : (all first count : ℕ) (seats : Seats) → HasSeats all first count seats → 0 < count → 0 < length seats.left.items
seat_left all first count seats has some = some_left (IsSeatOf seats.keeper.flag) first count seats.left.items has.left_are some

-- the next seat, and those after it
pub next_seat : (all first count later fewer : ℕ) (old new : Seats) (seat : SeatState) → HasSeats all first count old
    → old.left.items ≡ seat ∷ new.left.items → new.keeper ≡ old.keeper → later ≡ first + 1 → fewer + 1 ≡ count
    → IsSeatOf old.keeper.flag first seat × HasSeats all later fewer new
next_seat all first count later fewer old new seat has dealt keeper l f =
    let both = first_of (IsSeatOf old.keeper.flag) first count later fewer old.left.items new.left.items seat has.left_are dealt l f in (
      both.0,
      record {
        keeper_is = keeper ∙ has.keeper_is ∙ ap (λ k. new_keeper k.flag all) (sym keeper);
        left_are = subst (λ k. AreFrom (IsSeatOf k.flag) later fewer new.left.items) (sym keeper) both.1;
      },
    )
