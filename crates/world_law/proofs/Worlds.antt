-- What was sent to each session of each worker holds in each world that a list of steps makes.
use Rattle.std.proofs.Common.{◌≡◌, ℕ, ◌≤◌, List, [], ◌∷◌, ◌++◌, Bool, true, false, Option, Some, None, if◌then◌else◌, length, take, drop, refl, sym, ap, subst, ◌∙◌, append_assoc, arith}
use Rattle.std.specs.Prelude.{All, ◌==◌, ◌||◌}
use Rattle.std.proofs.lemmas.List.Elements.{All-map, All-weaker, All-nil}
use Rattle.std.proofs.lemmas.List.{take-append-le, length-append}
use Rattle.std.proofs.Math.Seq.{drop-append_seam}
use Rattle.std.proofs.lemmas.Bool.{eqb-true}
use Rattle.guild_model.specs.Record.{Record}
use Rattle.dispatch_types.specs.declared.dispatch.Dispatch.{Dispatch}
use Rattle.edit_apply.specs.declared.Edit.{Edit}
use Rattle.edit_apply.specs.Edits.{after, state}
use Rattle.edit_events.specs.Privacy.{TellsOnly, shown_for}
use Rattle.edit_events.proofs.Only.{edit_tells_only}
use Rattle.session_core.specs.declared.bot.Bot.{Bot}
use Rattle.session_core.specs.State.{Session}
use Rattle.session_core.specs.Frames.{Members, Presence, Voice, Move, Nothing, Answers, ClosesWith, Begins, Denies, Resumes, Wants}
use Rattle.world_law.specs.TheLaw.{AreOf, EachConnectionHolds, EachEntryHolds, EachEntryTellsOnly, EachMessageHolds, EachRunHolds, EachWorkerHolds, IsOf, OfSessions, all_taken}
use Rattle.world_law.specs.Inputs.{Closed, Frame, Input, Look, Lost, Open, Rebase, Tick, taken}
use Rattle.world_law.specs.Keeping.{Cursors, record_at}
use Rattle.world_law.specs.World.{Edits, Frames, Leaves, Looks, Loses, Opens, Step, Ticks, World, at_worker, first_of, first_world, lags, look_at, run, stepped}
use Rattle.world_law.proofs.Workers.{Follows, SessionMeets}
use Rattle.world_law.specs.Entries.{EntriesTellOnly, MessagesHold, SessionEntriesHold, first_cursors}
use Rattle.world_law.proofs.Sessions.{Meets, grown}
use Rattle.world_law.specs.Model.{Seen, Worker, cursors, first_worker, in_model, seen_with}
use Rattle.world_law.specs.Sent.{Sent}
use Rattle.world_law.specs.Folds.{SessionHolds, last_cursors}
use Rattle.world_law.proofs.Lists.{append_none}
use Rattle.world_law.specs.Looks.{entered, looked, looked_by, rebased_by}
use Rattle.world_law.proofs.Entries.{entries_grown}
use Rattle.world_law.proofs.Messages.{messages_alone, messages_shown}
use Rattle.world_law.specs.Frames.{framed, move_at}
use Rattle.world_law.specs.Sends.{IsAlone}
use Rattle.world_law.proofs.Taking.{taken_follows}
use Rattle.world_law.proofs.Alone.{IsSound, taken_sound}

-- what a worker has looked at is the front of each log
abbrev pub IsFront : Seen → Seen → Type 0
IsFront seen logs = (g : ℕ) → (rest : List Edit) × (logs g ≡ seen g ++ rest)

pub record Stays (logs : Seen) (w : Worker) : Type 0 where
  pub follows : Follows w
  pub sound : IsSound w
  pub front : IsFront w.logs.seen logs

logged : (logs : Seen) (g : ℕ) (e : Edit) (w : Worker) → Stays logs w → Stays (seen_with logs g e) w
logged logs g e w old = record { follows = old.follows; sound = old.sound; front = λ h. by_id h (g == h) (old.front h) }
  where
    by_id : (h : ℕ) (b : Bool) → (rest : List Edit) × (logs h ≡ w.logs.seen h ++ rest) → (rest : List Edit) × ((if b then logs h ++ e ∷ [] else logs h) ≡ w.logs.seen h ++ rest)
    by_id h true (rest, is) = (rest ++ e ∷ [], ap (λ es. es ++ e ∷ []) is ∙ append_assoc (w.logs.seen h) rest (e ∷ []))
    by_id h false old = old

-- ---- what an input leaves of what was looked at

module _ (text : ℕ → Dispatch → List ℕ) where
  pub looked_seen : (es : List Edit) (w : Worker) (g : ℕ) (s : Record) (h : ℕ) → (looked (in_model text) w g s es).logs.seen h ≡ (if g == h then w.logs.seen h ++ es else w.logs.seen h)
  looked_seen [] w g s h = by_id (g == h)
    where
      by_id : (b : Bool) → w.logs.seen h ≡ (if b then w.logs.seen h ++ [] else w.logs.seen h)
      by_id true = sym (append_none (w.logs.seen h))
      by_id false = refl
  looked_seen (e ∷ es) w g s h = looked_seen es (entered (in_model text) w g s e) g (after s e) h ∙ by_id (g == h)
    where
      by_id : (b : Bool) → (if b then (if b then w.logs.seen h ++ e ∷ [] else w.logs.seen h) ++ es else (if b then w.logs.seen h ++ e ∷ [] else w.logs.seen h)) ≡ (if b then w.logs.seen h ++ e ∷ es else w.logs.seen h)
      by_id true = append_assoc (w.logs.seen h) (e ∷ []) es
      by_id false = refl

  look_front : (logs : Seen) (g : ℕ) (es : List Edit) (w : Worker) → IsOf logs w (Look g es) → IsFront w.logs.seen logs → IsFront (taken (in_model text) w (Look g es)).logs.seen logs
  look_front logs g es w is front h = by_found (record_at (in_model text) w.logs g)
    where
      here : (b : Bool) → (g == h) ≡ b → (rest : List Edit) × (logs h ≡ (if b then w.logs.seen h ++ es else w.logs.seen h) ++ rest)
      here true same = (is.0, subst (λ (n : ℕ). logs n ≡ (w.logs.seen n ++ es) ++ is.0) (eqb-true g h same) (is.1 ∙ sym (append_assoc (w.logs.seen g) es is.0)))
      here false differ = front h

      by_found : (o : Option Record) → (rest : List Edit) × (logs h ≡ (looked_by (in_model text) o w g es).logs.seen h ++ rest)
      by_found None = front h
      by_found (Some s) = let now = here (g == h) refl in (now.0, now.1 ∙ ap (λ xs. xs ++ now.0) (sym (looked_seen es w g s h)))

  rebase_front : (logs : Seen) (g : ℕ) (log : List Edit) (w : Worker) → IsOf logs w (Rebase g log) → IsFront w.logs.seen logs → IsFront (taken (in_model text) w (Rebase g log)).logs.seen logs
  rebase_front logs g log w is front h = by_found (record_at (in_model text) w.logs g)
    where
      here : (b : Bool) → (g == h) ≡ b → (rest : List Edit) × (logs h ≡ (if b then log else w.logs.seen h) ++ rest)
      here true same = (is.1.0, subst (λ (n : ℕ). logs n ≡ log ++ is.1.0) (eqb-true g h same) is.1.1.1)
      here false differ = front h

      by_found : (o : Option Record) → (rest : List Edit) × (logs h ≡ (rebased_by (in_model text) o w g log).logs.seen h ++ rest)
      by_found None = front h
      by_found (Some s) = here (g == h) refl

  -- every other input leaves what was looked at
  framed_seen : (w : Worker) (conn : ℕ) (move : Move) → (framed (in_model text) w conn move).logs.seen ≡ w.logs.seen
  framed_seen w conn Nothing = refl
  framed_seen w conn Answers = refl
  framed_seen w conn (ClosesWith code) = refl
  framed_seen w conn (Begins bot viewer) = refl
  framed_seen w conn Denies = refl
  framed_seen w conn (Resumes number older seq held) = refl
  framed_seen w conn (Wants number (Members ask)) = refl
  framed_seen w conn (Wants number (Presence status)) = refl
  framed_seen w conn (Wants number (Voice ask)) = refl

  frame_front : (logs : Seen) (conn : ℕ) (received : List ℕ) (w : Worker) → IsFront w.logs.seen logs → IsFront (taken (in_model text) w (Frame conn received)).logs.seen logs
  frame_front logs conn received w front = subst (λ (seen : Seen). IsFront seen logs) (sym (framed_seen w conn (move_at (in_model text) w conn received))) front

  pub taken_stays : (logs : Seen) (i : Input) (w : Worker) → IsOf logs w i → Stays logs w → Stays logs (taken (in_model text) w i)
  taken_stays logs (Look g es) w is old = record { follows = taken_follows text logs (Look g es) w is old.follows; sound = taken_sound text (Look g es) w old.sound; front = look_front logs g es w is old.front }
  taken_stays logs (Rebase g log) w is old = record { follows = taken_follows text logs (Rebase g log) w is old.follows; sound = taken_sound text (Rebase g log) w old.sound; front = rebase_front logs g log w is old.front }
  taken_stays logs (Open conn) w is old = record { follows = taken_follows text logs (Open conn) w is old.follows; sound = taken_sound text (Open conn) w old.sound; front = old.front }
  taken_stays logs (Frame conn received) w is old = record { follows = taken_follows text logs (Frame conn received) w is old.follows; sound = taken_sound text (Frame conn received) w old.sound; front = frame_front logs conn received w old.front }
  taken_stays logs (Lost conn) w is old = record { follows = taken_follows text logs (Lost conn) w is old.follows; sound = taken_sound text (Lost conn) w old.sound; front = old.front }
  taken_stays logs (Closed conn code) w is old = record { follows = taken_follows text logs (Closed conn code) w is old.follows; sound = taken_sound text (Closed conn code) w old.sound; front = old.front }
  taken_stays logs (Tick now) w is old = record { follows = taken_follows text logs (Tick now) w is old.follows; sound = taken_sound text (Tick now) w old.sound; front = old.front }

-- ---- a world

-- a look at a log takes what follows the cursor, or the whole log
look_is_of : (logs : Seen) (g : ℕ) (w : Worker) → IsFront w.logs.seen logs → IsOf logs w (look_at g (logs g) (length (w.logs.seen g)))
look_is_of logs g w front = by_lag (lags (logs g) (length (w.logs.seen g)))
  where
    by_lag : (b : Bool) → IsOf logs w (if b then Rebase g (logs g) else Look g (drop (length (w.logs.seen g)) (logs g)))
    by_lag true = ((front g).0, ([], ((front g).1, sym (append_none (logs g)))))
    by_lag false =
        let next : List Edit = drop (length (w.logs.seen g)) (logs g) in
        let dropped : next ≡ (front g).0 = ap (drop (length (w.logs.seen g))) (front g).1 ∙ drop-append_seam (w.logs.seen g) (front g).0 in
        ([], (front g).1 ∙ ap (λ es. w.logs.seen g ++ es) (sym (append_none next ∙ dropped)))

moved_stays : (n : ℕ) (f : Worker → Worker) (m : World) → ((w : Worker) → Stays m.logs w → Stays m.logs (f w)) → All (Stays m.logs) m.workers → All (Stays m.logs) (at_worker n f m).workers
moved_stays n f m keeps old = All-map (Stays m.logs) (λ (w : Worker). if w.core.worker == n then f w else w) m.workers
    (All-weaker (Stays m.logs) (λ w. Stays m.logs (if w.core.worker == n then f w else w)) (λ w h. by_number w h (w.core.worker == n)) m.workers old)
  where
    by_number : (w : Worker) → Stays m.logs w → (b : Bool) → Stays m.logs (if b then f w else w)
    by_number w h true = keeps w h
    by_number w h false = h

abbrev pub WorldStays : World → Type 0
WorldStays m = All (Stays m.logs) m.workers

module _ (text : ℕ → Dispatch → List ℕ) where
  pub stepped_stays : (s : Step) (m : World) → WorldStays m → WorldStays (stepped text m s)
  stepped_stays (Edits g e) m old = All-weaker (Stays m.logs) (Stays (seen_with m.logs g e)) (logged m.logs g e) m.workers old
  stepped_stays (Looks n g) m old =
      moved_stays n (λ w. taken (in_model text) w (look_at g (m.logs g) (length (w.logs.seen g)))) m
      (λ w h. taken_stays text m.logs (look_at g (m.logs g) (length (w.logs.seen g))) w (look_is_of m.logs g w h.front) h) old
  stepped_stays (Opens n conn) m old = moved_stays n (λ w. taken (in_model text) w (Open conn)) m (λ w h. taken_stays text m.logs (Open conn) w tt h) old
  stepped_stays (Frames n conn received) m old = moved_stays n (λ w. taken (in_model text) w (Frame conn received)) m (λ w h. taken_stays text m.logs (Frame conn received) w tt h) old
  stepped_stays (Loses n conn) m old = moved_stays n (λ w. taken (in_model text) w (Lost conn)) m (λ w h. taken_stays text m.logs (Lost conn) w tt h) old
  stepped_stays (Leaves n conn code) m old = moved_stays n (λ w. taken (in_model text) w (Closed conn code)) m (λ w h. taken_stays text m.logs (Closed conn code) w tt h) old
  stepped_stays (Ticks n now) m old = moved_stays n (λ w. taken (in_model text) w (Tick now)) m (λ w h. taken_stays text m.logs (Tick now) w tt h) old

  run_stays : (steps : List Step) (m : World) → WorldStays m → WorldStays (run text m steps)
  run_stays [] m old = old
  run_stays (s ∷ steps) m old = run_stays steps (stepped text m s) (stepped_stays s m old)

  pub all_stay : (logs : Seen) (inputs : List Input) (w : Worker) → AreOf text logs w inputs → Stays logs w → Stays logs (all_taken text w inputs)
  all_stay logs [] w are old = old
  all_stay logs (i ∷ inputs) w are old = all_stay logs inputs (taken (in_model text) w i) are.1 (taken_stays text logs i w are.0 old)

-- before the first input nothing was looked at
worker_stays : (logs : Seen) (bots : List Bot) (guilds : List ℕ) (number : ℕ) (url : List ℕ) → Stays logs (first_worker bots guilds number url)
worker_stays logs bots guilds number url = record {
  follows = record { sessions = All-nil (SessionMeets (λ g. [])); strangers = λ g none. refl };
  sound = record { numbers = omega arith; alone = λ conn. tt };
  front = λ g. (logs g, refl);
}

pub first_stays : (bots : List Bot) (guilds : List ℕ) (places : List (ℕ × List ℕ)) → WorldStays (first_world bots guilds places)
first_stays bots guilds places = All-map (Stays (λ g. [])) (first_of bots guilds) places (λ k d h. worker_stays (λ g. []) bots guilds _ _)

-- ---- in the words of the law

session_holds : (logs seen : Seen) (x : Session Sent) → IsFront seen logs → SessionMeets seen x → SessionHolds logs (cursors seen) x
session_holds logs seen x front old =
    let last : Cursors = last_cursors (cursors seen) x in
    let same : (g p : ℕ) → p ≤ last g → take p (logs g) ≡ take p (seen g) = λ g p le.
    ap (λ es. take p es) (front g).1 ∙ take-append-le p (seen g) (front g).0 (omega (arith, old.meets.within g, le)) in
    let within : (g : ℕ) → last g ≤ length (logs g) = λ g. omega (arith, old.meets.within g, ap length (front g).1, length-append (seen g) (front g).0) in
    let new : Meets logs last x.viewer x.sent.told = grown seen logs last x.viewer x.sent.told same within old.meets in
    record { folds = new.folds; rises = new.rises; within = new.within }

pub worker_holds : (logs : Seen) (w : Worker) → Stays logs w → OfSessions SessionHolds logs w
worker_holds logs w old = All-weaker (SessionMeets w.logs.seen) (SessionHolds logs (cursors w.logs.seen)) (λ x. session_holds logs w.logs.seen x old.front) w.core.sessions old.follows.sessions

pub each_run_holds : EachRunHolds
unfolding EachRunHolds
each_run_holds text bots guilds places steps =
    let m : World = run text (first_world bots guilds places) steps in
    All-weaker (Stays m.logs) (OfSessions SessionHolds m.logs) (worker_holds m.logs) m.workers (run_stays text steps (first_world bots guilds places) (first_stays bots guilds places))

pub each_connection_holds : EachConnectionHolds
unfolding EachConnectionHolds
each_connection_holds text bots guilds places steps =
    let m : World = run text (first_world bots guilds places) steps in
    All-weaker (Stays m.logs) (λ (w : Worker). (conn : ℕ) → IsAlone conn w.core.sessions) (λ w old. old.sound.alone) m.workers
    (run_stays text steps (first_world bots guilds places) (first_stays bots guilds places))

-- ---- what was made for each entry

session_entries : (logs seen : Seen) (x : Session Sent) → IsFront seen logs → SessionMeets seen x → SessionEntriesHold logs (cursors seen) x
session_entries logs seen x front old =
    entries_grown seen logs (first_cursors x.sent.told) (last_cursors (cursors seen) x) x.viewer x.sent.told
    (λ g p le. ap (λ es. take p es) (front g).1 ∙ take-append-le p (seen g) (front g).0 (omega (arith, old.meets.within g, le))) old.entries.holds

pub worker_entries : (logs : Seen) (w : Worker) → Stays logs w → OfSessions SessionEntriesHold logs w
worker_entries logs w old =
    All-weaker (SessionMeets w.logs.seen) (SessionEntriesHold logs (cursors w.logs.seen)) (λ x. session_entries logs w.logs.seen x old.front) w.core.sessions old.follows.sessions

pub each_entry_holds : EachEntryHolds
unfolding EachEntryHolds
each_entry_holds text bots guilds places steps =
    let m : World = run text (first_world bots guilds places) steps in
    All-weaker (Stays m.logs) (OfSessions SessionEntriesHold m.logs) (worker_entries m.logs) m.workers
    (run_stays text steps (first_world bots guilds places) (first_stays bots guilds places))

session_tells : (logs seen : Seen) (x : Session Sent) → IsFront seen logs → SessionMeets seen x → EntriesTellOnly logs (cursors seen) x
session_tells logs seen x front old g earlier e is from upto =
    let s : Record = state g earlier in
    subst (λ (ds : List Dispatch). All (TellsOnly (λ channel. shown_for s x.viewer channel || shown_for (after s e) x.viewer channel)) ds)
    (sym ((session_entries logs seen x front old).handled g earlier e is from upto)) (edit_tells_only s e x.viewer)

worker_tells : (logs : Seen) (w : Worker) → Stays logs w → OfSessions EntriesTellOnly logs w
worker_tells logs w old =
    All-weaker (SessionMeets w.logs.seen) (EntriesTellOnly logs (cursors w.logs.seen)) (λ x. session_tells logs w.logs.seen x old.front) w.core.sessions old.follows.sessions

pub each_entry_tells_only : EachEntryTellsOnly
unfolding EachEntryTellsOnly
each_entry_tells_only text bots guilds places steps =
    let m : World = run text (first_world bots guilds places) steps in
    All-weaker (Stays m.logs) (OfSessions EntriesTellOnly m.logs) (worker_tells m.logs) m.workers
    (run_stays text steps (first_world bots guilds places) (first_stays bots guilds places))

session_messages : (logs seen : Seen) (x : Session Sent) → IsFront seen logs → SessionMeets seen x → MessagesHold logs (cursors seen) x
session_messages logs seen x front old =
    let entries : SessionEntriesHold logs (cursors seen) x = session_entries logs seen x front old in
    record {
      shown = messages_shown logs (cursors seen) x entries;
      alone = messages_alone logs (first_cursors x.sent.told) (last_cursors (cursors seen) x) x.viewer x.sent.told entries (session_holds logs seen x front old).within old.entries.plain;
    }

pub worker_messages : (logs : Seen) (w : Worker) → Stays logs w → OfSessions MessagesHold logs w
worker_messages logs w old =
    All-weaker (SessionMeets w.logs.seen) (MessagesHold logs (cursors w.logs.seen)) (λ x. session_messages logs w.logs.seen x old.front) w.core.sessions old.follows.sessions

pub each_message_holds : EachMessageHolds
unfolding EachMessageHolds
each_message_holds text bots guilds places steps =
    let m : World = run text (first_world bots guilds places) steps in
    All-weaker (Stays m.logs) (OfSessions MessagesHold m.logs) (worker_messages m.logs) m.workers
    (run_stays text steps (first_world bots guilds places) (first_stays bots guilds places))

-- ---- one worker

pub each_worker_holds : EachWorkerHolds
unfolding EachWorkerHolds
each_worker_holds text bots guilds number url logs inputs are =
    let first : Worker = first_worker bots guilds number url in
    let old : Stays logs (all_taken text first inputs) = all_stay text logs inputs first are (worker_stays logs bots guilds number url) in
    record {
      alone = old.sound.alone;
      folds = worker_holds logs (all_taken text first inputs) old;
      entries = worker_entries logs (all_taken text first inputs) old;
      tells = worker_tells logs (all_taken text first inputs) old;
      messages = worker_messages logs (all_taken text first inputs) old;
    }
