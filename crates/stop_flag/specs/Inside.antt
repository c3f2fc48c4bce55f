-- internal: cited by private functions only. What the fields of the keeper and of a seat say.
use Rattle.std.specs.Prelude.{◌≡◌, []}
use Rattle.stop_flag.specs.declared.stop_flag.StopFlag.TheInside as keeper
use Rattle.stop_flag.specs.declared.stop_seat.StopSeat.TheInside as seat
use Rattle.stop_flag.specs.FlagRule.{keeping, sitting}
use Rattle.stop_flag.specs.Flags.{SeatState, KeeperState}

abbrev pub seat_of : seat.Inside → SeatState
seat_of s = record { flag = s.seat.table_id; number = s.number; has_set = s.seat.me.0.has_set; found = s.seat.me.0.found; looks = s.seat.me.0.looks }

pub record IsSeat (s : seat.Inside) : Type 0 where
  pub table : s.seat.table_id ≡ s.flags.value.shared.table_id
  pub words : s.flags.value.shared.table_id.words ≡ 1
  pub view : s.seat.me ≡ (sitting s.number s.seat.me.0.has_set s.seat.me.0.found s.seat.me.0.looks, [])

abbrev pub keeper_of : keeper.Inside → KeeperState
keeper_of k = record { flag = k.seat.table_id; seats = k.seat.me.0.seats; ended = k.seat.me.0.ended }

pub record IsKeeper (k : keeper.Inside) : Type 0 where
  pub table : k.seat.table_id ≡ k.flags.value.shared.table_id
  pub words : k.flags.value.shared.table_id.words ≡ 1
  pub view : k.seat.me ≡ (keeping k.seat.me.0.seats k.seat.me.0.ended, [])
