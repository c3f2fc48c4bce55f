-- internal: cited by private functions only
-- What the watcher of a client knows and wants.
use Rattle.std.specs.Prelude.{◌≡◌, ℕ, ◌+◌, ◌-◌, ◌^◌, ◌≤◌, ◌%◌, ◌==◌, min, nat_lt, Bool, true, false, ◌&&◌, if◌then◌else◌, is_some, Result, Ok, Err}
use Rattle.stop_flag.specs.Flags.{SeatState, after_set, after_look, after_finding, WasNotSet}
use Rattle.client_cache.specs.Cached.{Cached}
use Rattle.client_run.specs.declared.driven.Driven.{Driven}
use Rattle.client_run.specs.declared.fault.DriveFault.{DriveFault}
use Rattle.client_run.specs.declared.watch.Wants.{Wants}
use Rattle.client_run.specs.declared.watch.Wants.TheVariants.{GoOn, Reconnect, Finish, Stop}
use Rattle.load_client.specs.declared.name_goal.NameGoal.{NameGoal}
use Rattle.load_client.specs.Names.{all_named}

-- what a watcher has
pub record WatchState : Type 0 where
  -- its seat at the stop flag
  pub seat : SeatState
  -- what it waits for
  pub goal : NameGoal
  -- how many dispatches its client was told
  pub dispatches : ℕ
  -- how often it has had the link dropped
  pub drops : ℕ
  -- whether it has found the flag set
  pub has_found : Bool

abbrev pub new_watch : NameGoal → SeatState → WatchState
new_watch goal seat = record { seat = seat; goal = goal; dispatches = 0; drops = 0; has_found = false }

-- its seat is still the one that it began with, which has set nothing since, and its goal is the one
-- that it set out for
pub record IsWatch (begun : SeatState) (set_out : NameGoal) (w : WatchState) : Type 0 where
  pub seat : w.seat ≡ record begun { found = w.seat.found; looks = w.seat.looks }
  pub goal : w.goal ≡ set_out
  pub found : w.has_found ≡ true → is_some w.seat.found ≡ true
  pub not_found : w.has_found ≡ false → w.seat.found ≡ begun.found
  pub few : w.drops ≤ 10

-- with one dispatch more
abbrev pub counted : WatchState → WatchState
counted w = record w { dispatches = min (w.dispatches + 1) (2 ^ 64 - 1) }

-- whether a client that was told so many dispatches, and has dropped its link so often, drops it: after
-- each 200, ten times
abbrev pub is_drop_due : ℕ → ℕ → Bool
is_drop_due dispatches drops = (dispatches % 200 == 0) && nat_lt drops 10

abbrev pub wants_of : WatchState → Cached → Wants
wants_of w c =
    if w.has_found then Stop
    else if all_named w.goal.guilds w.goal.name c then Finish
    else if is_drop_due w.dispatches w.drops then Reconnect
    else GoOn

abbrev pub after_want : WatchState → Wants → WatchState
after_want w GoOn = w
after_want w Reconnect = record w { drops = w.drops + 1 }
after_want w Finish = w
after_want w Stop = w

-- after a look at the flag
abbrev pub Looks : WatchState → WatchState → Bool → Type 0
Looks old new true = (by : ℕ) × (new ≡ record old { seat = after_finding old.seat by; has_found = true })
Looks old new false = (new ≡ record old { seat = after_look old.seat }) × WasNotSet new.seat

-- a seat whose client ended so: it sets the flag after a fault
abbrev pub seat_after : Result Driven DriveFault → SeatState → SeatState
seat_after (Ok d) seat = seat
seat_after (Err f) seat = after_set seat
