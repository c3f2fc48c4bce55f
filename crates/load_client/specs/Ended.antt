-- What a client of a load has done once it has ended.
use Rattle.std.specs.Prelude.{◌≡◌, ℕ, ◌≤◌, List, ◌||◌, Option, Some, Result, Ok, Err, is_err}
use Rattle.gate_outside.specs.Clocks.{ClockTale}
use Rattle.gate_outside.specs.Dials.{DialTale}
use Rattle.dispatch_types.specs.Fold.{fold}
use Rattle.client_cache.specs.Cached.{Cached, held_of}
use Rattle.client_session.specs.State.{ClientState, new_client, empty_cache}
use Rattle.client_run.specs.declared.driven.Driven.{Driven}
use Rattle.client_run.specs.declared.driven.Driven.TheVariants.{Finished, Stopped}
use Rattle.client_run.specs.declared.fault.DriveFault.{DriveFault}
use Rattle.client_run.specs.declared.target.Target.TheVariants.{First}
use Rattle.client_run.specs.Histories.{Visit, dispatches, all_told, dropped}
use Rattle.client_run.specs.Drives.{Drives, outside, seen}
use Rattle.client_run.specs.Watched.{no_tale}
use Rattle.stop_flag.specs.Flags.{SeatState}
use Rattle.load_client.specs.declared.load_client.LoadClient.{LoadClient}
use Rattle.load_client.specs.declared.ended_client.EndedClient.{EndedClient}
use Rattle.load_client.specs.Names.{AllNamed}

-- the client that it begins as
abbrev pub client_of : LoadClient → ClientState Cached
client_of c = new_client c.token c.intents (empty_cache c.intents)

-- by whom its seat has found the stop flag set: nobody else if it has finished, and somebody if it was
-- stopped
abbrev pub FoundBy : Option ℕ → Result Driven DriveFault → Option ℕ → Type 0
FoundBy old (Ok Finished) new = new ≡ old
FoundBy old (Ok Stopped) new = (by : ℕ) × (new ≡ Some by)
FoundBy old (Err fault) new = Unit {0}

-- what its seat tells: it is the same seat, which has set the flag exactly if the client ended by a
-- fault, or if it had done so before
pub record SeatEnds (old : SeatState) (r : Result Driven DriveFault) (new : SeatState) : Type 0 where
  pub flag : new.flag ≡ old.flag
  pub number : new.number ≡ old.number
  pub has_set : new.has_set ≡ (is_err r || old.has_set)
  pub found : FoundBy old.found r new.found

-- a client that has ended after these visits: it was driven so; of each guild it holds the fold of all
-- dispatches that it was told; it had its link dropped ten times at most; and it has finished only if
-- it holds each guild of its goal with the goal's name
pub record HasEnded (c : LoadClient) (vs : List Visit) (dial later_dial : DialTale) (clock later_clock : ClockTale) (e : EndedClient) : Type 0 where
  pub drives : Drives c.url First vs (outside (client_of c) dial (seen clock no_tale))
      (outside e.client later_dial (seen later_clock no_tale)) e.driven
  pub holds : (g : ℕ) → held_of e.client.kept g ≡ fold c.intents g (dispatches (all_told vs))
  pub drops : dropped vs ≤ 10
  pub seat : SeatEnds c.seat e.driven e.seat
  pub named : e.driven ≡ Ok Finished → AllNamed c.goal.guilds c.goal.name e.client.kept
