-- What a watcher leaves when its client ends.
use Rattle.std.proofs.Common.{◌≡◌, ℕ, ◌+◌, ◌≤◌, List, ◌||◌, true, false, true≢false, Option, Some, None, is_some, Result, Ok, Err, is_err, sym, refl, subst, ap, ◌∙◌, arith}
use Rattle.gate_outside.specs.Clocks.{ClockTale}
use Rattle.gate_outside.specs.Dials.{DialTale}
use Rattle.client_cache.specs.Cached.{Cached}
use Rattle.client_session.specs.State.{ClientState}
use Rattle.client_run.specs.declared.driven.Driven.{Driven}
use Rattle.client_run.specs.declared.driven.Driven.TheVariants.{Finished, Stopped}
use Rattle.client_run.specs.declared.fault.DriveFault.{DriveFault}
use Rattle.client_run.specs.declared.target.Target.TheVariants.{First}
use Rattle.client_run.specs.Histories.{Visit, dropped}
use Rattle.client_run.specs.Drives.{Drives, Folds, Tells, outside, seen}
use Rattle.client_run.specs.Watched.{no_tale}
use Rattle.stop_flag.specs.Flags.{SeatState}
use Rattle.load_client.specs.declared.load_client.LoadClient.{LoadClient}
use Rattle.load_client.specs.declared.name_goal.NameGoal.{NameGoal}
use Rattle.load_client.specs.Names.{AllNamed}
use Rattle.load_client.specs.Watching.{WatchState, IsWatch, seat_after}
use Rattle.load_client.specs.Ended.{client_of, FoundBy, SeatEnds, HasEnded}

found_by : (found : Option ℕ) → is_some found ≡ true → (by : ℕ) × (found ≡ Some by)
found_by None e = absurd (true≢false (sym e))
found_by (Some by) e = (by, refl)

has_found : (begun : Option ℕ) (w : WatchState) (finished : Type 0) (r : Result Driven DriveFault) → (w.has_found ≡ true → is_some w.seat.found ≡ true) → (w.has_found ≡ false → w.seat.found ≡ begun)
    → Tells (finished × (w.has_found ≡ false)) (w.has_found ≡ true) r → FoundBy begun r (seat_after r w.seat).found
has_found begun w finished (Ok Finished) found not_found tells = not_found tells.1
has_found begun w finished (Ok Stopped) found not_found tells = found_by w.seat.found (found tells)
has_found begun w finished (Err fault) found not_found tells = tt

same_flag : (s : SeatState) (r : Result Driven DriveFault) → (seat_after r s).flag ≡ s.flag
same_flag s (Ok d) = refl
same_flag s (Err fault) = refl

same_number : (s : SeatState) (r : Result Driven DriveFault) → (seat_after r s).number ≡ s.number
same_number s (Ok d) = refl
same_number s (Err fault) = refl

set_if_faulted : (s : SeatState) (r : Result Driven DriveFault) → (seat_after r s).has_set ≡ (is_err r || s.has_set)
set_if_faulted s (Ok d) = refl
set_if_faulted s (Err fault) = refl

-- the seat, by how the client ended
seat_ends : (finished : Type 0) (begun : SeatState) (goal : NameGoal) (w : WatchState) (r : Result Driven DriveFault) → IsWatch begun goal w
    → Tells (finished × (w.has_found ≡ false)) (w.has_found ≡ true) r → SeatEnds begun r (seat_after r w.seat)
seat_ends finished begun goal w r is tells = record {
  flag = same_flag w.seat r ∙ ap (λ (s : SeatState). s.flag) is.seat;
  number = same_number w.seat r ∙ ap (λ (s : SeatState). s.number) is.seat;
  has_set = set_if_faulted w.seat r ∙ ap (λ (s : SeatState). is_err r || s.has_set) is.seat;
  found = has_found begun.found w finished r is.found is.not_found tells;
}

-- a watcher that finished its client has seen enough
seen_by : (finished sure stopped : Type 0) (r : Result Driven DriveFault) → Tells (finished × sure) stopped r → r ≡ Ok Finished → finished
seen_by finished sure stopped r tells is = (subst (λ (d : Result Driven DriveFault). Tells (finished × sure) stopped d) is tells).0

few_of : (drops none more : ℕ) → drops ≤ 10 → none ≡ 0 → drops ≡ none + more → more ≤ 10
few_of drops none more few zero is = omega arith

-- a client that was driven under a watcher has ended
pub has_ended : (l : LoadClient) (dial later_dial : DialTale) (clock later_clock : ClockTale) (url : List ℕ) (client later : ClientState Cached) (begun w : WatchState) (seat : SeatState) (r : Result Driven DriveFault)
    → url ≡ l.url → client ≡ client_of l → IsWatch l.seat l.goal w → seat ≡ seat_after r w.seat
    → Tells (AllNamed w.goal.guilds w.goal.name later.kept × (w.has_found ≡ false)) (w.has_found ≡ true) r
    → begun.drops ≡ 0
    → (vs : List Visit) × (Drives url First vs (outside client dial (seen clock no_tale)) (outside later later_dial (seen later_clock no_tale)) r × (Folds client vs later × (w.drops ≡ begun.drops + dropped vs)))
    → (vs : List Visit) × HasEnded l vs dial later_dial clock later_clock (record { client = later; seat = seat; driven = r })
has_ended l dial later_dial clock later_clock url client later begun w seat r to is watches leaves tells none drove =
    let vs : List Visit = drove.0 in
    let first : Drives l.url First vs (outside client dial (seen clock no_tale)) (outside later later_dial (seen later_clock no_tale)) r =
    subst (λ (text : List ℕ). Drives text First vs (outside client dial (seen clock no_tale)) (outside later later_dial (seen later_clock no_tale)) r) to drove.1.0 in (
      vs,
      record {
        drives = subst (λ (begun : ClientState Cached). Drives l.url First vs (outside begun dial (seen clock no_tale)) (outside later later_dial (seen later_clock no_tale)) r) is first;
        holds = λ g. drove.1.1.0 l.token l.intents g is;
        drops = few_of w.drops begun.drops (dropped vs) watches.few none drove.1.1.1;
        seat = subst (λ (s : SeatState). SeatEnds l.seat r s) (sym leaves) (seat_ends (AllNamed w.goal.guilds w.goal.name later.kept) l.seat l.goal w r watches tells);
        named = λ finished. subst (λ (goal : NameGoal). AllNamed goal.guilds goal.name later.kept) watches.goal
            (seen_by (AllNamed w.goal.guilds w.goal.name later.kept) (w.has_found ≡ false) (w.has_found ≡ true) r tells finished);
      },
    )
