-- Sessions of a worker grow with each input.
use Rattle.std.proofs.Common.{◌≡◌, ℕ, ◌+◌, List, [], ◌∷◌, ◌++◌, Bool, true, false, Option, Some, None, if◌then◌else◌, length, map, refl, sym, ap, subst, ◌∙◌, append_assoc, inl, inr}
use Rattle.std.specs.Prelude.{All, ◌==◌, ◌&&◌, flat_map, max, nat_lt}
use Rattle.std.proofs.lemmas.List.Elements.{All-nil, All-cons, All-append, All-head, All-tail}
use Rattle.guild_model.specs.Record.{Record}
use Rattle.dispatch_types.specs.declared.viewer.Viewer.{Viewer}
use Rattle.dispatch_types.specs.declared.dispatch.Dispatch.{Dispatch}
use Rattle.gateway_frames.specs.declared.frame.Ask.{Ask}
use Rattle.edit_apply.specs.declared.Edit.{Edit}
use Rattle.edit_apply.specs.Edits.{after}
use Rattle.edit_events.specs.Due.{due}
use Rattle.session_core.specs.declared.bot.Bot.{Bot}
use Rattle.session_core.specs.declared.reply.Mark.TheVariants.{Start, Entry}
use Rattle.session_core.specs.State.{State, Session, Connection, Condition, Attached, Detached, is_on, is_live, has_connection, released, opened, gone, begun}
use Rattle.session_core.specs.Frames.{Want, Members, Presence, Voice, Move, Nothing, Answers, ClosesWith, Begins, Denies, Resumes, Wants, framed as with_frame}
use Rattle.session_core.specs.Resume.{session_id, joined, attached_to, resumed}
use Rattle.session_core.specs.Ends.{is_final, lost, all_gone, left, client_closed, silent_of, is_overdue, ticked}
use Rattle.world_law.specs.Keeping.{Cursors, record_at}
use Rattle.world_law.specs.Sent.{Sent, SentDispatch, dispatches, dispatch_of, told, chunks_told, ended_at}
use Rattle.world_law.specs.Looks.{after_entry, entered, looked, looked_by, rebased_by}
use Rattle.world_law.specs.Greeting.{begins_with, first_dispatches}
use Rattle.world_law.specs.Wants.{is_numbered, change_first, answer_to, after_answer, after_want}
use Rattle.world_law.specs.Frames.{framed, move_at}
use Rattle.world_law.specs.Inputs.{Input, Look, Rebase, Open, Frame, Lost, Closed, Tick, taken}
use Rattle.world_law.specs.Model.{Logs, Worker, in_model, cursors, seen_with}
use Rattle.world_law.proofs.Lists.{append_none, map_join}
use Rattle.world_law.proofs.Folds.{dispatches_told}
use Rattle.world_law.proofs.Sends.{chunk_dispatches}
use Rattle.two_ends.proofs.Among.{IsAmong}
use Rattle.two_ends.proofs.Minds.{Grows, Grown, Keeps, SessionKeeps, WorkerKeeps}
use Rattle.two_ends.proofs.Kept.{IsNoReady, AreNoReady, all_keep_no_ready, due_no_ready, answer_no_ready, first_keep}

-- ---- growing

pub grows_same : (x : Session Sent) → Grows x x
grows_same x = record { number = refl; viewer = refl; more = []; dispatches = sym (append_none (dispatches x.sent)) }

pub grows_on : (x y z : Session Sent) → Grows x y → Grows y z → Grows x z
grows_on x y z first next = record {
  number = next.number ∙ first.number;
  viewer = next.viewer ∙ first.viewer;
  more = first.more ++ next.more;
  dispatches = next.dispatches ∙ (ap (λ ds. ds ++ next.more) first.dispatches ∙ append_assoc (dispatches x.sent) first.more next.more);
}

pub grown_same : (xs : List (Session Sent)) → Grown xs xs
grown_same [] = tt
grown_same (x ∷ xs) = (grows_same x, grown_same xs)

pub grown_on : (xs ys zs : List (Session Sent)) → Grown xs ys → Grown ys zs → Grown xs zs
grown_on [] ys zs first next = tt
grown_on (x ∷ xs) [] zs first next = absurd first
grown_on (x ∷ xs) (y ∷ ys) [] first next = absurd next
grown_on (x ∷ xs) (y ∷ ys) (z ∷ zs) first next = (grows_on x y z first.0 next.0, grown_on xs ys zs first.1 next.1)

pub grown_among : (x : Session Sent) (xs ys : List (Session Sent)) → Grown xs ys → IsAmong x xs → (y : Session Sent) × (IsAmong y ys × Grows x y)
grown_among x [] ys grown among = absurd among
grown_among x (a ∷ xs) [] grown among = absurd grown
grown_among x (a ∷ xs) (b ∷ ys) grown (inl is) = (b, (inl refl, subst (λ (z : Session Sent). Grows z b) (sym is) grown.0))
grown_among x (a ∷ xs) (b ∷ ys) grown (inr among) = let found = grown_among x xs ys grown.1 among in (found.0, (inr found.1.0, found.1.1))

-- ---- growing by dispatches that are no READY

pub record Adds (x y : Session Sent) : Type 0 where
  pub number : y.number ≡ x.number
  pub viewer : y.viewer ≡ x.viewer
  pub more : List Dispatch
  pub dispatches : dispatches y.sent ≡ dispatches x.sent ++ more
  pub no_ready : AreNoReady more

-- each session has grown so, and what others have been sent that may have begun after them keeps their ids
abbrev pub Added : ℕ → List (Session Sent) → List (Session Sent) → Type 0
Added worker [] ys = All (SessionKeeps worker) ys
Added worker (x ∷ xs) [] = ⊥
Added worker (x ∷ xs) (y ∷ ys) = Adds x y × Added worker xs ys

pub adds_grow : (x y : Session Sent) → Adds x y → Grows x y
adds_grow x y adds = record { number = adds.number; viewer = adds.viewer; more = adds.more; dispatches = adds.dispatches }

pub added_grown : (worker : ℕ) (xs ys : List (Session Sent)) → Added worker xs ys → Grown xs ys
added_grown worker [] ys added = tt
added_grown worker (x ∷ xs) [] added = absurd added
added_grown worker (x ∷ xs) (y ∷ ys) added = (adds_grow x y added.0, added_grown worker xs ys added.1)

adds_keep : (worker : ℕ) (x y : Session Sent) → Adds x y → SessionKeeps worker x → SessionKeeps worker y
adds_keep worker x y adds keeps =
    subst (λ (ds : List Dispatch). All (Keeps (session_id worker y.number)) ds) (sym adds.dispatches)
    (All-append (Keeps (session_id worker y.number)) (dispatches x.sent) adds.more
    (subst (λ (n : ℕ). All (Keeps (session_id worker n)) (dispatches x.sent)) (sym adds.number) keeps)
    (all_keep_no_ready (session_id worker y.number) adds.more adds.no_ready))

pub added_keep : (worker : ℕ) (xs ys : List (Session Sent)) → Added worker xs ys → All (SessionKeeps worker) xs → All (SessionKeeps worker) ys
added_keep worker [] ys added keep = added
added_keep worker (x ∷ xs) [] added keep = absurd added
added_keep worker (x ∷ xs) (y ∷ ys) added keep =
    All-cons (SessionKeeps worker) y ys (adds_keep worker x y added.0 (All-head (SessionKeeps worker) x xs keep))
    (added_keep worker xs ys added.1 (All-tail (SessionKeeps worker) x xs keep))

-- nothing more
adds_none : (x y : Session Sent) → y.number ≡ x.number → y.viewer ≡ x.viewer → dispatches y.sent ≡ dispatches x.sent → Adds x y
adds_none x y number viewer same = record { number = number; viewer = viewer; more = []; dispatches = same ∙ sym (append_none (dispatches x.sent)); no_ready = All-nil IsNoReady }

adds_same : (x : Session Sent) → Adds x x
adds_same x = adds_none x x refl refl refl

adds_on : (x y z : Session Sent) → Adds x y → Adds y z → Adds x z
adds_on x y z first next = record {
  number = next.number ∙ first.number;
  viewer = next.viewer ∙ first.viewer;
  more = first.more ++ next.more;
  dispatches = next.dispatches ∙ (ap (λ ds. ds ++ next.more) first.dispatches ∙ append_assoc (dispatches x.sent) first.more next.more);
  no_ready = All-append IsNoReady first.more next.more first.no_ready next.no_ready;
}

added_same : (worker : ℕ) (xs : List (Session Sent)) → Added worker xs xs
added_same worker [] = All-nil (SessionKeeps worker)
added_same worker (x ∷ xs) = (adds_same x, added_same worker xs)

added_on : (worker : ℕ) (xs ys zs : List (Session Sent)) → Added worker xs ys → Added worker ys zs → Added worker xs zs
added_on worker [] ys zs first next = added_keep worker ys zs next first
added_on worker (x ∷ xs) [] zs first next = absurd first
added_on worker (x ∷ xs) (y ∷ ys) [] first next = absurd next
added_on worker (x ∷ xs) (y ∷ ys) (z ∷ zs) first next = (adds_on x y z first.0 next.0, added_on worker xs ys zs first.1 next.1)

-- ---- lists of sessions, each changed, or one more

module _ (worker : ℕ) (f : Session Sent → Session Sent) (adds : (x : Session Sent) → Adds x (f x)) where
  map_added : (xs : List (Session Sent)) → Added worker xs (map f xs)
  map_added [] = All-nil (SessionKeeps worker)
  map_added (x ∷ xs) = (adds x, map_added xs)

  first_added : (p : Session Sent → Bool) (xs : List (Session Sent)) → Added worker xs (change_first p f xs)
  first_added p [] = All-nil (SessionKeeps worker)
  first_added p (x ∷ xs) = by_test (p x) (first_added p xs)
    where
      by_test : (b : Bool) → Added worker xs (change_first p f xs) → Added worker (x ∷ xs) (if b then f x ∷ xs else x ∷ change_first p f xs)
      by_test true rest = (adds x, added_same worker xs)
      by_test false rest = (adds_same x, rest)

-- a session that ends by a test
ends_added : (worker : ℕ) (last : Cursors) (p : Session Sent → Bool) (xs : List (Session Sent)) → Added worker xs (flat_map (λ x. if p x then ended_at last x else x ∷ []) xs)
ends_added worker last p [] = All-nil (SessionKeeps worker)
ends_added worker last p (x ∷ xs) = by_test (p x) (ends_added worker last p xs)
  where
    by_test : (b : Bool) → Added worker xs (flat_map (λ y. if p y then ended_at last y else y ∷ []) xs)
        → Added worker (x ∷ xs) ((if b then ended_at last x else x ∷ []) ++ flat_map (λ y. if p y then ended_at last y else y ∷ []) xs)
    by_test true rest = (adds_none x _ refl refl refl, rest)
    by_test false rest = (adds_same x, rest)

one_more : (worker : ℕ) (xs : List (Session Sent)) (x : Session Sent) → SessionKeeps worker x → Added worker xs (xs ++ x ∷ [])
one_more worker [] x keeps = All-cons (SessionKeeps worker) x [] keeps (All-nil (SessionKeeps worker))
one_more worker (y ∷ xs) x keeps = (adds_same y, one_more worker xs x keeps)

-- ---- one session

entry_adds : (text : ℕ → Dispatch → List ℕ) (logs : Logs) (g : ℕ) (s : Record) (e : Edit) (x : Session Sent) → Adds x (after_entry (in_model text) logs g s e x)
entry_adds text logs g s e x = by_live (is_live x.condition)
  where
    more : List SentDispatch
    more = told (Entry g (length (logs.seen g) + 1)) (cursors logs.seen) (cursors (seen_with logs.seen g e)) (due s e x.viewer)

    by_live : (b : Bool) → Adds x (if b then record x { sent = record x.sent { told = x.sent.told ++ more } } else x)
    by_live true = record {
      number = refl;
      viewer = refl;
      more = due s e x.viewer;
      dispatches = map_join dispatch_of x.sent.told more ∙ ap (λ ds. dispatches x.sent ++ ds) (dispatches_told (Entry g (length (logs.seen g) + 1)) (cursors logs.seen) (cursors (seen_with logs.seen g e)) (due s e x.viewer));
      no_ready = due_no_ready s e x.viewer;
    }
    by_live false = adds_same x

answer_adds : (text : ℕ → Dispatch → List ℕ) (w : Worker) (ask : Ask) (x : Session Sent) → Adds x (after_answer (in_model text) w ask x)
answer_adds text w ask x = record {
  number = refl;
  viewer = refl;
  more = answer_to (in_model text) w ask x;
  dispatches = map_join dispatch_of x.sent.told (chunks_told w.chunks (cursors w.logs.seen) (answer_to (in_model text) w ask x)) ∙ ap (λ ds. dispatches x.sent ++ ds) (chunk_dispatches text w.chunks (cursors w.logs.seen) (answer_to (in_model text) w ask x));
  no_ready = answer_no_ready x.viewer ask (record_at (in_model text) w.logs ask.guild);
}

released_adds : (conn : ℕ) (next : Condition) (x : Session Sent) → Adds x (released conn next x)
released_adds conn next x = by_test (is_on conn x.condition)
  where
    by_test : (b : Bool) → Adds x (if b then record x { condition = next } else x)
    by_test true = adds_none x _ refl refl refl
    by_test false = adds_same x

joined_adds : (conn number : ℕ) (x : Session Sent) → Adds x (joined conn number x)
joined_adds conn number x = by_test (is_live x.condition && (x.number == number))
  where
    by_test : (b : Bool) → Adds x (if b then record x { condition = Attached conn } else x)
    by_test true = adds_none x _ refl refl refl
    by_test false = adds_same x

-- ---- each move

-- a worker's number stays, and its sessions grow so
pub record Goes (s t : State Sent) : Type 0 where
  pub worker : t.worker ≡ s.worker
  pub sessions : Added s.worker s.sessions t.sessions

goes_same : (s : State Sent) → Goes s s
goes_same s = record { worker = refl; sessions = added_same s.worker s.sessions }

goes_on : (s t u : State Sent) → Goes s t → Goes t u → Goes s u
goes_on s t u first next = record {
  worker = next.worker ∙ first.worker;
  sessions = added_on s.worker s.sessions t.sessions u.sessions first.sessions (subst (λ (n : ℕ). Added n t.sessions u.sessions) first.worker next.sessions);
}

gone_goes : (s : State Sent) (conn : ℕ) (next : Condition) → Goes s (gone conn next s)
gone_goes s conn next = record { worker = refl; sessions = map_added s.worker (released conn next) (released_adds conn next) s.sessions }

joined_goes : (s : State Sent) (conn number : ℕ) → Goes s (attached_to conn number s)
joined_goes s conn number = record { worker = refl; sessions = map_added s.worker (joined conn number) (joined_adds conn number) s.sessions }

resumed_goes : (s : State Sent) (conn now number : ℕ) (older : Option ℕ) → Goes s (resumed conn now number older s)
resumed_goes s conn now number None = joined_goes s conn number
resumed_goes s conn now number (Some c) =
    goes_on s (gone c (Detached now) s) (attached_to conn number (gone c (Detached now) s)) (gone_goes s c (Detached now)) (joined_goes (gone c (Detached now) s) conn number)

opened_goes : (s : State Sent) (conn now : ℕ) → Goes s (opened conn now s)
opened_goes s conn now = by_tests (has_connection conn s) (nat_lt (length s.connections) 64)
  where
    by_tests : (b c : Bool) → Goes s (if b then s else (if c then record s { connections = s.connections ++ record { number = conn; last_heartbeat_ms = now; times = [] } ∷ [] } else s))
    by_tests true c = goes_same s
    by_tests false true = record { worker = refl; sessions = added_same s.worker s.sessions }
    by_tests false false = goes_same s

lost_goes : (s : State Sent) (conn now : ℕ) → Goes s (lost conn now s)
lost_goes s conn now = by_connection (has_connection conn s)
  where
    by_connection : (b : Bool) → Goes s (if b then gone conn (Detached now) s else s)
    by_connection true = gone_goes s conn (Detached now)
    by_connection false = goes_same s

-- sessions that end by a test
ends_goes : (s : State Sent) (last : Cursors) (p : Session Sent → Bool) (connections : List Connection)
    → Goes s (record s { connections = connections; sessions = flat_map (λ x. if p x then ended_at last x else x ∷ []) s.sessions })
ends_goes s last p connections = record { worker = refl; sessions = ends_added s.worker last p s.sessions }

closed_goes : (s : State Sent) (last : Cursors) (conn code now : ℕ) → Goes s (client_closed (ended_at last) conn code now s)
closed_goes s last conn code now = by_code (is_final code) (has_connection conn s)
  where
    by_code : (final there : Bool) → Goes s (if final then (if there then left (ended_at last) conn s else s) else lost conn now s)
    by_code false there = lost_goes s conn now
    by_code true false = goes_same s
    by_code true true = let new = ends_goes s last (λ x. is_on conn x.condition) [] in record { worker = new.worker; sessions = new.sessions }

all_gone_goes : (conns : List ℕ) (s : State Sent) (now : ℕ) → Goes s (all_gone conns now s)
all_gone_goes [] s now = goes_same s
all_gone_goes (conn ∷ conns) s now =
    goes_on s (gone conn (Detached now) s) (all_gone conns now (gone conn (Detached now) s)) (gone_goes s conn (Detached now)) (all_gone_goes conns (gone conn (Detached now) s) now)

ticked_goes : (s : State Sent) (last : Cursors) (now : ℕ) → Goes s (ticked (ended_at last) now s)
ticked_goes s last now =
    let left_on : State Sent = all_gone (silent_of now s.connections) now s in
    goes_on s left_on (ticked (ended_at last) now s) (all_gone_goes (silent_of now s.connections) s now) (ends_goes left_on last (λ x. is_overdue now x.condition) left_on.connections)

-- ---- each input

module _ (text : ℕ → Dispatch → List ℕ) where
  entered_goes : (w : Worker) (g : ℕ) (s : Record) (e : Edit) → Goes w.core (entered (in_model text) w g s e).core
  entered_goes w g s e = record { worker = refl; sessions = map_added w.core.worker (after_entry (in_model text) w.logs g s e) (entry_adds text w.logs g s e) w.core.sessions }

  looked_goes : (es : List Edit) (w : Worker) (g : ℕ) (s : Record) → Goes w.core (looked (in_model text) w g s es).core
  looked_goes [] w g s = goes_same w.core
  looked_goes (e ∷ es) w g s =
      goes_on w.core (entered (in_model text) w g s e).core (looked (in_model text) w g s (e ∷ es)).core
      (entered_goes w g s e) (looked_goes es (entered (in_model text) w g s e) g (after s e))

  begun_goes : (w : Worker) (conn : ℕ) (bot : Bot) (v : Viewer) → Goes w.core (begun conn bot v (begins_with (in_model text) w bot v) w.core)
  begun_goes w conn bot v =
      let n : ℕ = w.core.made + 1 in
      record {
        worker = refl;
        sessions = one_more w.core.worker w.core.sessions (record { number = n; token = bot.token; name = bot.name; viewer = v; condition = Attached conn; sent = begins_with (in_model text) w bot v n })
            (subst (λ (ds : List Dispatch). All (Keeps (session_id w.core.worker n)) ds) (sym (dispatches_told Start (cursors w.logs.seen) (cursors w.logs.seen) (first_dispatches (in_model text) w v bot.name n)))
            (first_keep text w v bot.name n));
      }

  want_goes : (number : ℕ) (want : Want) (s : State Sent) (w : Worker) → Goes s w.core → Goes s (after_want (in_model text) number want w).core
  want_goes number (Members ask) s w before =
      goes_on s w.core (after_want (in_model text) number (Members ask) w).core before
      (record { worker = refl; sessions = first_added w.core.worker (after_answer (in_model text) w ask) (answer_adds text w ask) (is_numbered number) w.core.sessions })
  want_goes number (Presence status) s w before = before
  want_goes number (Voice ask) s w before = before

  pub framed_goes : (w : Worker) (conn : ℕ) (move : Move) → Goes w.core (framed (in_model text) w conn move).core
  framed_goes w conn Nothing = record { worker = refl; sessions = added_same w.core.worker w.core.sessions }
  framed_goes w conn Answers = record { worker = refl; sessions = added_same w.core.worker w.core.sessions }
  framed_goes w conn (ClosesWith code) = let new = gone_goes w.core conn (Detached w.now) in record { worker = new.worker; sessions = new.sessions }
  framed_goes w conn (Begins bot v) = let new = begun_goes w conn bot v in record { worker = new.worker; sessions = new.sessions }
  framed_goes w conn Denies = record { worker = refl; sessions = added_same w.core.worker w.core.sessions }
  framed_goes w conn (Resumes number older seq held) = let new = resumed_goes w.core conn w.now number older in record { worker = new.worker; sessions = new.sessions }
  framed_goes w conn (Wants number want) =
      want_goes number want w.core (record w { core = with_frame conn w.now (begins_with (in_model text) w) (Wants number want) w.core }) (record { worker = refl; sessions = added_same w.core.worker w.core.sessions })

  pub taken_goes : (i : Input) (w : Worker) → Goes w.core (taken (in_model text) w i).core
  taken_goes (Look g es) w = by_found (record_at (in_model text) w.logs g)
    where
      by_found : (o : Option Record) → Goes w.core (looked_by (in_model text) o w g es).core
      by_found None = goes_same w.core
      by_found (Some s) = looked_goes es w g s
  taken_goes (Rebase g log) w = by_found (record_at (in_model text) w.logs g)
    where
      by_found : (o : Option Record) → Goes w.core (rebased_by (in_model text) o w g log).core
      by_found None = goes_same w.core
      by_found (Some s) = let new = ends_goes w.core (cursors w.logs.seen) (λ x. is_live x.condition) [] in record { worker = new.worker; sessions = new.sessions }
  taken_goes (Open conn) w = opened_goes w.core conn w.now
  taken_goes (Frame conn received) w = framed_goes w conn (move_at (in_model text) w conn received)
  taken_goes (Lost conn) w = lost_goes w.core conn w.now
  taken_goes (Closed conn code) w = closed_goes w.core (cursors w.logs.seen) conn code w.now
  taken_goes (Tick now) w = ticked_goes w.core (cursors w.logs.seen) (max w.now now)

  goes_keep : (w u : Worker) → Goes w.core u.core → WorkerKeeps w → WorkerKeeps u
  goes_keep w u goes keep = subst (λ (n : ℕ). All (SessionKeeps n) u.core.sessions) (sym goes.worker) (added_keep w.core.worker w.core.sessions u.core.sessions goes.sessions keep)

  pub entered_grows : (w : Worker) (g : ℕ) (s : Record) (e : Edit) → Grown w.core.sessions (entered (in_model text) w g s e).core.sessions
  entered_grows w g s e = added_grown w.core.worker w.core.sessions (entered (in_model text) w g s e).core.sessions (entered_goes w g s e).sessions

  pub looked_grows : (es : List Edit) (w : Worker) (g : ℕ) (s : Record) → Grown w.core.sessions (looked (in_model text) w g s es).core.sessions
  looked_grows es w g s = added_grown w.core.worker w.core.sessions (looked (in_model text) w g s es).core.sessions (looked_goes es w g s).sessions

  pub taken_grows : (i : Input) (w : Worker) → Grown w.core.sessions (taken (in_model text) w i).core.sessions
  taken_grows i w = added_grown w.core.worker w.core.sessions (taken (in_model text) w i).core.sessions (taken_goes i w).sessions

  pub taken_worker : (i : Input) (w : Worker) → (taken (in_model text) w i).core.worker ≡ w.core.worker
  taken_worker i w = (taken_goes i w).worker

  pub looked_keeps : (es : List Edit) (w : Worker) (g : ℕ) (s : Record) → WorkerKeeps w → WorkerKeeps (looked (in_model text) w g s es)
  looked_keeps es w g s keep = goes_keep w (looked (in_model text) w g s es) (looked_goes es w g s) keep

  pub entered_keeps : (w : Worker) (g : ℕ) (s : Record) (e : Edit) → WorkerKeeps w → WorkerKeeps (entered (in_model text) w g s e)
  entered_keeps w g s e keep = goes_keep w (entered (in_model text) w g s e) (entered_goes w g s e) keep

  pub taken_keeps : (i : Input) (w : Worker) → WorkerKeeps w → WorkerKeeps (taken (in_model text) w i)
  taken_keeps i w keep = goes_keep w (taken (in_model text) w i) (taken_goes i w) keep
