-- The law of two ends, by induction over the events.
use Rattle.std.proofs.Common.{◌≡◌, ℕ, zero, suc, List, [], ◌∷◌, ◌++◌, Bool, true, false, Option, Some, None, if◌then◌else◌, length, take, drop, refl, sym, ap, subst, ◌∙◌, arith, eq-eqb, inl, inr}
use Rattle.std.specs.Prelude.{All, ◌==◌, option_map}
use Rattle.std.proofs.lemmas.Bool.{eqb-true}
use Rattle.std.proofs.lemmas.List.{length-append}
use Rattle.std.proofs.lemmas.List.Elements.{All-nil}
use Rattle.std.proofs.lemmas.Option.{same_Some}
use Rattle.std.proofs.Math.Seq.{take-append_seam}
use Rattle.dispatch_types.specs.declared.dispatch.Dispatch.{Dispatch}
use Rattle.dispatch_types.specs.Fold.{fold}
use Rattle.session_core.specs.declared.bot.Bot.{Bot}
use Rattle.session_core.specs.State.{Session}
use Rattle.session_core.specs.Resume.{session_id}
use Rattle.client_session.specs.declared.session.Session.{Session as ClientSession}
use Rattle.client_session.specs.declared.received.Received.{Received}
use Rattle.client_session.specs.Step.{Receives}
use Rattle.client_session.specs.Law.{Model as Client, taken as client_taken}
use Rattle.world_law.specs.Folds.{SessionHolds}
use Rattle.world_law.specs.Inputs.{Input, Look, Rebase, Open, Frame, Lost, Closed, Tick}
use Rattle.world_law.specs.Model.{Worker, cursors}
use Rattle.world_law.specs.Sent.{Sent, dispatches}
use Rattle.world_law.specs.World.{World, Step, Edits, Looks, Opens, Frames, Loses, Leaves, Ticks, stepped, first_world, look_at, lags}
use Rattle.world_law.proofs.Worlds.{Stays, worker_holds, stepped_stays, first_stays}
use Rattle.two_ends.specs.Flights.{Flight, Text, Close, flights, ReadsBack, Fits}
use Rattle.two_ends.specs.Ends.{Ends, first_ends, worker_at, input_if, input_of, outputs_of, given_by, flights_of, moved}
use Rattle.two_ends.specs.Events.{Event, Hears, Arrives, Cuts, Learns, Dials, Beats, Happens, IsHeard, IsElsewhere, IsUnused, WorkerFits, MayHappen, MayAllHappen, heard, arrived, after, after_all}
use Rattle.two_ends.specs.TwoEnds.{SessionIsHeld, EndsHold, TwoEnds}
use Rattle.two_ends.proofs.Among.{among_contains, all_among}
use Rattle.two_ends.proofs.Minds.{SessionKeeps, Known}
use Rattle.two_ends.proofs.Growing.{taken_worker}
use Rattle.two_ends.proofs.Steps.{Advances, advances_same}
use Rattle.two_ends.proofs.Beyond.{not_beyond}
use Rattle.two_ends.proofs.Stages.{IsOwn}
use Rattle.two_ends.proofs.Hearing.{mind, asks_mind, loses_mind}
use Rattle.two_ends.proofs.Elsewhere.{IsElse}
use Rattle.two_ends.proofs.Lasting.{Holds, flown_to, any_lasts, text_lasts, open_lasts, hear_lasts, hear_advances, beat_lasts, learn_lasts, cut_lasts}
use Rattle.two_ends.proofs.Places.{after_input, worker_stepped, worker_number, found_stays, first_worker_at}

-- ---- which inputs a step gives

given_if : (n : ℕ) (w : Worker) (i j : Input) → input_if n w i ≡ Some j → (w.core.worker ≡ n) × (i ≡ j)
given_if n w i j is = by_test (w.core.worker == n) refl is
  where
    by_test : (b : Bool) → (w.core.worker == n) ≡ b → (if b then Some i else None) ≡ Some j → (w.core.worker ≡ n) × (i ≡ j)
    by_test true same is = (eqb-true w.core.worker n same, same_Some i j is)
    by_test false same is = absurd (cc is)

else_input : (m : World) (w : Worker) (worker : ℕ) (conn : Option ℕ) (step : Step) → w.core.worker ≡ worker → IsElsewhere worker conn step → (i : Input) → input_of m w step ≡ Some i → (k : ℕ) → conn ≡ Some k → IsElse k i
else_input m w worker conn (Edits g e) number elsewhere i is k here = absurd (cc is)
else_input m w worker conn (Looks n g) number elsewhere i is k here = subst (IsElse k) (given_if n w (look_at g (m.logs g) (length (w.logs.seen g))) i is).1 (by_lag (lags (m.logs g) (length (w.logs.seen g))))
  where
    by_lag : (b : Bool) → IsElse k (if b then Rebase g (m.logs g) else Look g (drop (length (w.logs.seen g)) (m.logs g)))
    by_lag true = tt
    by_lag false = tt
else_input m w worker conn (Opens n c) number elsewhere i is k here =
    let given = given_if n w (Open c) i is in
    subst (IsElse k) given.1 (λ same. elsewhere (sym given.0 ∙ number) (here ∙ ap Some (sym same)))
else_input m w worker conn (Frames n c text) number elsewhere i is k here =
    let given = given_if n w (Frame c text) i is in
    subst (IsElse k) given.1 (λ same. elsewhere (sym given.0 ∙ number) (here ∙ ap Some (sym same)))
else_input m w worker conn (Loses n c) number elsewhere i is k here = subst (IsElse k) (given_if n w (Lost c) i is).1 tt
else_input m w worker conn (Leaves n c code) number elsewhere i is k here = subst (IsElse k) (given_if n w (Closed c code) i is).1 tt
else_input m w worker conn (Ticks n now) number elsewhere i is k here = subst (IsElse k) (given_if n w (Tick now) i is).1 tt

-- its own worker is given an input
own_input : (n : ℕ) (w : Worker) (i : Input) → w.core.worker ≡ n → input_if n w i ≡ Some i
own_input n w i is = ap (λ b. if b then Some i else None) (eq-eqb w.core.worker n is)

-- ---- what holds of the two ends

module _ (text : ℕ → Dispatch → List ℕ) (back : ReadsBack text) where
  pub record Stand (e : Ends) : Type 0 where
    pub stays : All (Stays e.world.logs) e.world.workers
    pub ends : (w : Worker) → worker_at e.worker e.world ≡ Some w → Holds text e.client e.worker e.conn e.is_whole e.to_client e.to_worker w
    -- where there is no worker, nothing is on its way
    pub alone : worker_at e.worker e.world ≡ None → e.to_client ≡ []

  stays_here : (e : Ends) → Stand e → (w : Worker) → worker_at e.worker e.world ≡ Some w → Stays e.world.logs w
  stays_here e stand w found = found_stays (Stays e.world.logs) e.worker e.world w stand.stays found

  fits_here : (o : Option Worker) (w : Worker) → WorkerFits o → o ≡ Some w → Fits w
  fits_here None w fits found = absurd (cc found)
  fits_here (Some v) w fits found = subst Fits (same_Some v w found) fits

  -- ---- a step of the world

  module _ (e : Ends) (step : Step) where
    from : (new : Worker) → worker_at e.worker (stepped text e.world step) ≡ Some new → (w : Worker) × ((worker_at e.worker e.world ≡ Some w) × (new ≡ after_input text w (input_of e.world w step)))
    from new found = by_worker (worker_at e.worker e.world) refl (sym (worker_stepped text (taken_worker text) e.worker e.world step) ∙ found)
      where
        by_worker : (o : Option Worker) → worker_at e.worker e.world ≡ o → option_map (λ (w : Worker). after_input text w (input_of e.world w step)) o ≡ Some new
            → (w : Worker) × ((worker_at e.worker e.world ≡ Some w) × (new ≡ after_input text w (input_of e.world w step)))
        by_worker None here is = absurd (cc is)
        by_worker (Some w) here is = (w, (here, sym (same_Some (after_input text w (input_of e.world w step)) new is)))

    none_from : worker_at e.worker (stepped text e.world step) ≡ None → worker_at e.worker e.world ≡ None
    none_from none = by_worker (worker_at e.worker e.world) (sym (worker_stepped text (taken_worker text) e.worker e.world step) ∙ none)
      where
        by_worker : (o : Option Worker) → option_map (λ (w : Worker). after_input text w (input_of e.world w step)) o ≡ None → o ≡ None
        by_worker None is = refl
        by_worker (Some w) is = absurd (cc is)

    flights_are : (w : Worker) → worker_at e.worker e.world ≡ Some w → (conn : Option ℕ) → flights_of text e step conn ≡ flown_to conn (outputs_of text w (input_of e.world w step))
    flights_are w found None = refl
    flights_are w found (Some k) = ap (λ (o : Option Worker). flights k (given_by text e.world o step)) found

    no_flights : worker_at e.worker e.world ≡ None → (conn : Option ℕ) → flights_of text e step conn ≡ []
    no_flights none None = refl
    no_flights none (Some k) = ap (λ (o : Option Worker). flights k (given_by text e.world o step)) none

    alone_moved : (worker_at e.worker e.world ≡ None → e.to_client ≡ []) → worker_at e.worker (stepped text e.world step) ≡ None → (moved text e step).to_client ≡ []
    alone_moved alone none = ap (λ fs. fs ++ (if e.is_whole then flights_of text e step e.conn else [])) (alone (none_from none)) ∙ by_link e.is_whole
      where
        by_link : (b : Bool) → (if b then flights_of text e step e.conn else []) ≡ []
        by_link true = no_flights (none_from none) e.conn
        by_link false = refl

    -- by the worker as it was
    moved_stands : All (Stays e.world.logs) e.world.workers → (worker_at e.worker e.world ≡ None → e.to_client ≡ [])
        → ((w : Worker) → worker_at e.worker e.world ≡ Some w
        → Holds text e.client e.worker e.conn e.is_whole (e.to_client ++ (if e.is_whole then flown_to e.conn (outputs_of text w (input_of e.world w step)) else [])) e.to_worker (after_input text w (input_of e.world w step)))
        → Stand (moved text e step)
    moved_stands stays alone holds = record {
      stays = stepped_stays text step e.world stays;
      ends = λ new found.
          let old = from new found in
          subst (λ (w : Worker). Holds text e.client e.worker e.conn e.is_whole (e.to_client ++ (if e.is_whole then flights_of text e step e.conn else [])) e.to_worker w) (sym old.1.1)
          (subst (λ (fs : List Flight). Holds text e.client e.worker e.conn e.is_whole (e.to_client ++ (if e.is_whole then fs else [])) e.to_worker (after_input text old.0 (input_of e.world old.0 step)))
          (sym (flights_are old.0 old.1.0 e.conn)) (holds old.0 old.1.0));
      alone = alone_moved alone;
    }

  -- ---- each event

  module _ (e : Ends) (fits : WorkerFits (worker_at e.worker e.world)) (stand : Stand e) where
    fits_of : (w : Worker) → worker_at e.worker e.world ≡ Some w → Fits w
    fits_of w found = fits_here (worker_at e.worker e.world) w fits found

    heard_stands : (received : Received) (now : ℕ) (fs : List Flight) → e.to_client ≡ fs → IsHeard fs received → Stand (heard text e received now fs)
    heard_stands received now [] is may = stand
    heard_stands received now (Close code ∷ later) is may = stand
    heard_stands received now (Text t ∷ later) is may = record {
      stays = stand.stays;
      ends = λ w found. hear_lasts text e.worker e.conn w back (fits_of w found) e.client e.is_whole t later e.to_worker received now may
          (subst (λ (fs : List Flight). Holds text e.client e.worker e.conn e.is_whole fs e.to_worker w) is (stand.ends w found));
      alone = λ none. absurd (cc (sym is ∙ stand.alone none));
    }

    arrived_stands : (conn : Option ℕ) (texts : List (List ℕ)) → e.conn ≡ conn → e.to_worker ≡ texts → Stand (arrived text e conn texts)
    arrived_stands None texts is are = stand
    arrived_stands (Some k) [] is are = stand
    arrived_stands (Some k) (t ∷ later) is are =
        moved_stands (record e { to_worker = later }) (Frames e.worker k t) stand.stays stand.alone (λ w found.
        let old : Holds text e.client e.worker (Some k) e.is_whole e.to_client (t ∷ later) w =
        subst (λ (conn : Option ℕ). Holds text e.client e.worker conn e.is_whole e.to_client (t ∷ later) w) is
        (subst (λ (ts : List (List ℕ)). Holds text e.client e.worker e.conn e.is_whole e.to_client ts w) are (stand.ends w found)) in
        let here : Stays e.world.logs w = stays_here e stand w found in
        subst (λ (conn : Option ℕ). Holds text e.client e.worker conn e.is_whole (e.to_client ++ (if e.is_whole then flown_to conn (outputs_of text w (input_if e.worker w (Frame k t))) else [])) later (after_input text w (input_if e.worker w (Frame k t)))) (sym is)
        (subst (λ (o : Option Input). Holds text e.client e.worker (Some k) e.is_whole (e.to_client ++ (if e.is_whole then flown_to (Some k) (outputs_of text w o) else [])) later (after_input text w o)) (sym (own_input e.worker w (Frame k t) old.number))
        (text_lasts text e.client e.worker e.to_client w here.sound back here.follows (fits_of w found).made k t later e.is_whole old)))

    dialled_stands : (k : ℕ) → IsUnused k (worker_at e.worker e.world) → Stand (after text e (Dials k))
    dialled_stands k unused =
        moved_stands (record e { conn = Some k; is_linked = true; is_whole = true; to_client = []; to_worker = [] }) (Opens e.worker k) stand.stays (λ none. refl) (λ w found.
        let old : Holds text e.client e.worker e.conn e.is_whole e.to_client e.to_worker w = stand.ends w found in
        let free = unused_here (worker_at e.worker e.world) w unused found in
        subst (λ (o : Option Input). Holds text e.client e.worker (Some k) true ([] ++ flown_to (Some k) (outputs_of text w o)) [] (after_input text w o)) (sym (own_input e.worker w (Open k) old.number))
        (open_lasts text e.client e.worker e.to_client w (stays_here e stand w found).sound k e.conn e.is_whole e.to_worker free.0 free.1 old))
      where
        unused_here : (o : Option Worker) (w : Worker) → IsUnused k o → o ≡ Some w → IsUnused k (Some w)
        unused_here o w unused found = subst (IsUnused k) found unused

    pub event_stands : (event : Event) → MayHappen e event → Stand (after text e event)
    event_stands (Hears received now) may = heard_stands received now e.to_client refl may
    event_stands Arrives may = arrived_stands e.conn e.to_worker refl refl
    event_stands (Cuts m n) may = record {
      stays = stand.stays;
      ends = λ w found. cut_lasts text e.worker e.conn w e.client e.is_whole e.to_client e.to_worker m n (stand.ends w found);
      alone = λ none. none_taken m e.to_client (stand.alone none);
    }
      where
        none_taken : (m : ℕ) (fs : List Flight) → fs ≡ [] → take m fs ≡ []
        none_taken zero fs is = refl
        none_taken (suc m) [] is = refl
        none_taken (suc m) (f ∷ fs) is = absurd (cc is)
    event_stands (Learns code) may = record {
      stays = stand.stays;
      ends = λ w found. learn_lasts text e.worker e.conn w e.client e.is_whole e.to_client e.to_worker code (stand.ends w found);
      alone = λ none. refl;
    }
    event_stands (Dials k) may = dialled_stands k may.1
    event_stands (Beats now) may = record {
      stays = stand.stays;
      ends = λ w found. beat_lasts text e.worker e.conn w e.client e.is_whole e.to_client e.to_worker now (stand.ends w found);
      alone = stand.alone;
    }
    event_stands (Happens step) may =
        moved_stands e step stand.stays stand.alone (λ w found.
        any_lasts text e.client e.worker e.to_client w (stays_here e stand w found).sound (input_of e.world w step) e.conn e.is_whole e.to_worker
        (else_input e.world w e.worker e.conn step (stand.ends w found).number may) (stand.ends w found))

    -- ---- the client does not go back

    heard_advances : (received : Received) (now : ℕ) (fs : List Flight) → e.to_client ≡ fs → IsHeard fs received → Advances (mind e.client) (mind (heard text e received now fs).client)
    heard_advances received now [] is may = advances_same (mind e.client)
    heard_advances received now (Close code ∷ later) is may = advances_same (mind e.client)
    heard_advances received now (Text t ∷ later) is may = by_worker (worker_at e.worker e.world) refl
      where
        by_worker : (o : Option Worker) → worker_at e.worker e.world ≡ o → Advances (mind e.client) (mind (client_taken e.client (Receives received now)))
        by_worker None none = absurd (cc (sym is ∙ stand.alone none))
        by_worker (Some w) found = hear_advances text e.worker e.conn w back (fits_of w found) e.client e.is_whole t later e.to_worker received now may
            (subst (λ (fs : List Flight). Holds text e.client e.worker e.conn e.is_whole fs e.to_worker w) is (stand.ends w found))

    arrived_client : (conn : Option ℕ) (texts : List (List ℕ)) → (arrived text e conn texts).client ≡ e.client
    arrived_client None texts = refl
    arrived_client (Some k) [] = refl
    arrived_client (Some k) (t ∷ later) = refl

    pub event_advances : (event : Event) → MayHappen e event → Advances (mind e.client) (mind (after text e event).client)
    event_advances (Hears received now) may = heard_advances received now e.to_client refl may
    event_advances Arrives may = subst (λ (c : Client). Advances (mind e.client) (mind c)) (sym (arrived_client e.conn e.to_worker)) (advances_same (mind e.client))
    event_advances (Cuts m n) may = advances_same (mind e.client)
    event_advances (Learns code) may = elim (loses_mind e.client code) [
      | inl same ↦ subst (Advances (mind e.client)) (sym same) (advances_same (mind e.client))
      | inr none ↦ subst (Advances (mind e.client)) (sym none) (λ s t is at id. absurd (cc at))
    ]
    event_advances (Dials k) may = advances_same (mind e.client)
    event_advances (Beats now) may = subst (Advances (mind e.client)) (sym (asks_mind e.client now)) (advances_same (mind e.client))
    event_advances (Happens step) may = advances_same (mind e.client)

    -- ---- what is said of them

    pub session_held : (w : Worker) (s : ClientSession) → worker_at e.worker e.world ≡ Some w → e.client.session ≡ Some s → SessionIsHeld e.world.logs w e.client s
    session_held w s found has =
        let old : Holds text e.client e.worker e.conn e.is_whole e.to_client e.to_worker w = stand.ends w found in
        let known : Known e.client.intents e.worker w.core.sessions (mind e.client) = old.knows s has in
        let same : known.at.session ≡ s = same_Some known.at.session s (sym known.at.is ∙ has) in
        let number : s.number ≡ length known.front = ap (λ (s : ClientSession). s.number) (sym same) ∙ known.at.number in
        let front : take s.number (dispatches known.session.sent) ≡ known.front = ap (λ n. take n (dispatches known.session.sent)) number ∙ (ap (take (length known.front)) known.split ∙ take-append_seam known.front known.back) in
        record {
          session = known.session;
          among = among_contains known.session w.core.sessions known.among;
          id = ap (λ (s : ClientSession). s.id) (sym same) ∙ (known.at.id ∙ ap (λ n. session_id n known.session.number) (sym old.number));
          intents = known.at.intents;
          within = omega (arith, number, ap length known.split, length-append known.front known.back);
          folds = λ g. known.at.folds g ∙ ap (fold e.client.intents g) (sym front);
          holds = all_among (SessionHolds e.world.logs (cursors w.logs.seen)) known.session w.core.sessions (worker_holds e.world.logs w (stays_here e stand w found)) known.among;
        }

    pub ends_hold : EndsHold text e
    ends_hold = record {
      session = session_held;
      advances = λ event s next may has now id. event_advances event may s next has now id;
      resumes = λ w k t later found here texts.
          let old : Holds text e.client e.worker e.conn e.is_whole e.to_client (t ∷ later) w = subst (λ (ts : List (List ℕ)). Holds text e.client e.worker e.conn e.is_whole e.to_client ts w) texts (stand.ends w found) in
          not_beyond text w (stays_here e stand w found).sound (omega (arith, (fits_of w found).made)) back k t (subst (λ n. IsOwn n w.core.sessions t) (sym old.number) old.own.0);
    }

  -- ---- before the first event, and after all

  first_stands : (bots : List Bot) (guilds : List ℕ) (places : List (ℕ × List ℕ)) (worker : ℕ) (token : List ℕ) (intents : ℕ) → Stand (first_ends bots guilds places worker token intents)
  first_stands bots guilds places worker token intents = record {
    stays = first_stays bots guilds places;
    ends = λ w found.
        let fresh = first_worker_at bots guilds places worker w found in
        record {
          number = worker_number worker (first_world bots guilds places) w found;
          items = [];
          are = refl;
          good = tt;
          knows = λ s is. absurd (cc is);
          own = tt;
          keeps = subst (λ (xs : List (Session Sent)). All (SessionKeeps w.core.worker) xs) (sym fresh) (All-nil (SessionKeeps w.core.worker));
          stage = λ k is whole. absurd (cc is);
        };
    alone = λ none. refl;
  }

  all_hold : (e : Ends) (events : List Event) → MayAllHappen text e events → Stand e → EndsHold text (after_all text e events)
  all_hold e [] may stand = ends_hold e may stand
  all_hold e (event ∷ events) may stand = all_hold (after text e event) events may.1.1 (event_stands e may.0 stand event may.1.0)

pub each_two_ends : TwoEnds
unfolding TwoEnds
each_two_ends text back bots guilds places worker token intents events may =
    all_hold text back (first_ends bots guilds places worker token intents) events may (first_stands text back bots guilds places worker token intents)
