-- What the worker makes of the first frame of a client on its connection.
use Rattle.std.proofs.Common.{◌≡◌, ℕ, ◌+◌, ◌<◌, ◌≤◌, ◌^◌, List, [], ◌∷◌, ◌++◌, Bool, true, false, Option, Some, None, if◌then◌else◌, length, map, drop, refl, sym, ap, subst, ◌∙◌, arith, ◌⊎◌, inl, inr}
use Rattle.std.specs.Prelude.{◌==◌, flat_map}
use Rattle.std.proofs.Math.Seq.{drop-append_seam}
use Rattle.std.proofs.lemmas.Bool.{true≢false}
use Rattle.std.proofs.lemmas.Option.{same_Some}
use Rattle.std.proofs.lemmas.Grind.{flat_map-append}
use Rattle.dispatch_types.specs.declared.dispatch.Dispatch.{Dispatch}
use Rattle.dispatch_types.specs.declared.dispatch.Dispatch.TheVariants.{Ready}
use Rattle.dispatch_types.specs.declared.ready.Ready.{Ready as Greeted}
use Rattle.dispatch_types.specs.declared.viewer.Viewer.{Viewer}
use Rattle.dispatch_types.specs.Fold.{fold, purge}
use Rattle.gateway_frames.specs.declared.out.Out.TheVariants.{Invalid, Resumed}
use Rattle.session_core.specs.declared.bot.Bot.{Bot}
use Rattle.session_core.specs.State.{Session, Attached, Detached, attached, released}
use Rattle.session_core.specs.Frames.{Move, Nothing, ClosesWith, Begins}
use Rattle.client_session.specs.declared.session.Session.{Session as ClientSession}
use Rattle.world_law.specs.Frames.{older_sends}
use Rattle.world_law.specs.Greeting.{ready, greeting_of, begins_with}
use Rattle.world_law.specs.Model.{Worker, in_model, cursors}
use Rattle.world_law.specs.Outputs.{Output, Says, sends}
use Rattle.world_law.specs.Resumes.{IsDenied, GoesOn as ResumeGoesOn}
use Rattle.world_law.specs.Sends.{AreOff}
use Rattle.world_law.specs.Sent.{Sent, dispatches}
use Rattle.world_law.specs.Wants.{is_numbered}
use Rattle.session_core.specs.declared.reply.Mark.TheVariants.{Start}
use Rattle.world_law.proofs.Alone.{IsSound}
use Rattle.world_law.proofs.Folds.{dispatches_told, same_id}
use Rattle.world_law.proofs.Lists.{append_none, map_join}
use Rattle.world_law.proofs.Workers.{Follows}
use Rattle.world_law.proofs.Connections.{released_off}
use Rattle.two_ends.specs.Flights.{Text, Close, said, flights, flight}
use Rattle.two_ends.proofs.Among.{IsAmong, all_among, off_among, found_among, among_here, among_part, one_on}
use Rattle.two_ends.proofs.Minds.{Item, Said, Shut, flown, all_flown, told_items, Mind, with_dispatch, minded, all_minded, SessionKeeps, WorkerKeeps, At, Known, Knows, IsGreeting, Comes, GoesOn, Good}
use Rattle.two_ends.proofs.Steps.{flown_told, minded_join, good_join, told_good, at_first, at_resumed}
use Rattle.two_ends.proofs.Stages.{AreStill, still_join, later_join, still_later, all_still_minded, AreBeats, Stage, off_ends, still_good, told_later}
use Rattle.two_ends.proofs.Places.{same_number, among_below}
use Rattle.two_ends.proofs.Arriving.{session_still, made_by, gives_by, closed_flies, Leaves}

module _ (text : ℕ → Dispatch → List ℕ) (intents conn : ℕ) where
  -- ---- the first frame

  -- what is left where the connection is not open, is closed, or its session cannot be resumed
  spent : (worker : ℕ) (m : Mind) (is items : List Item) (later : List (List ℕ)) (xs : List (Session Sent)) → AreOff conn xs → AreStill is → AreStill items → AreBeats later
      → Stage intents worker m conn xs (is ++ items) later
  spent worker m is items later xs off still also beats = inr (record {
    ends = off_ends intents worker conn (all_minded m (is ++ items)) xs off;
    late = still_later (is ++ items) (still_join is items still also);
    beats = beats;
  })

  pub spent_leaves : (w : Worker) (worker : ℕ) (m : Mind) (is : List Item) (later : List (List ℕ)) (move : Move) → (move ≡ Nothing) ⊎ ((code : ℕ) × (move ≡ ClosesWith code))
      → AreOff conn w.core.sessions → AreStill is → AreBeats later → Leaves text intents conn worker m is later (made_by text conn w move) (gives_by text conn w move)
  spent_leaves w worker m is later move ends off still beats = elim ends [
    | inl none ↦ subst (λ (move : Move). Leaves text intents conn worker m is later (made_by text conn w move) (gives_by text conn w move)) (sym none) (record { items = []; are = refl; good = tt; stage = spent worker m is [] later w.core.sessions off still tt beats })
    | inr closes ↦ subst (λ (move : Move). Leaves text intents conn worker m is later (made_by text conn w move) (gives_by text conn w move)) (sym closes.1) (record {
      items = Shut closes.0 ∷ [];
      are = closed_flies text conn closes.0;
      good = (tt, tt);
      stage = spent worker m is (Shut closes.0 ∷ []) later (map (released conn (Detached w.now)) w.core.sessions) (released_off conn w.now w.core.sessions) still (tt, tt) beats;
    })
  ]

  pub denied_leaves : (w new : Worker) (out : List Output) (worker : ℕ) (m : Mind) (is : List Item) (later : List (List ℕ)) → IsDenied w conn new out
      → AreOff conn w.core.sessions → AreStill is → AreBeats later → Leaves text intents conn worker m is later new out
  denied_leaves w new out worker m is later denied off still beats = record {
    items = Said (Invalid false) ∷ [];
    are = ap (flights conn) denied.0 ∙ ap (λ b. (if b then Text (said (Invalid false)) ∷ [] else []) ++ []) (same_id conn);
    good = (refl, tt);
    stage = inl (
      subst (AreOff conn) (sym denied.1) off,
      inl (record {
        prompt = Said (Invalid false);
        which = inr refl;
        front = is;
        back = [];
        split = refl;
        before = still;
        later = tt;
        beats = beats;
      }),
    );
  }

  -- a session that begins
  module _ (w : Worker) (m : Mind) (is : List Item) (later : List (List ℕ)) (bot : Bot) (viewer : Viewer) where
    abbrev begins : Session Sent
    begins = record { number = w.core.made + 1; token = bot.token; name = bot.name; viewer = viewer; condition = Attached conn; sent = begins_with (in_model text) w bot viewer (w.core.made + 1) }

    abbrev greeted : Greeted
    greeted = ready (in_model text) w viewer bot.name (w.core.made + 1)

    abbrev greetings : List Dispatch
    greetings = flat_map (greeting_of viewer) ((in_model text).records w.logs)

    begins_told : dispatches begins.sent ≡ Ready greeted ∷ greetings
    begins_told = dispatches_told Start (cursors w.logs.seen) (cursors w.logs.seen) (Ready greeted ∷ greetings)

    pub begins_leaves : viewer.intents ≡ intents → AreOff conn w.core.sessions → AreStill is → AreBeats later → Knows intents w.core.worker w.core.sessions m → IsSound w → w.core.made + 1 < 2 ^ 64
        → SessionKeeps w.core.worker begins → Leaves text intents conn w.core.worker m is later (made_by text conn w (Begins bot viewer)) (gives_by text conn w (Begins bot viewer))
    begins_leaves asked off still beats knows sound few keeps =
        let worker : ℕ = w.core.worker in
        let xs : List (Session Sent) = w.core.sessions ++ begins ∷ [] in
        let same : all_minded m is ≡ m = all_still_minded m is still in
        let here : IsAmong begins xs = among_here begins w.core.sessions [] in
        let greeting : IsGreeting intents worker m begins [] (Ready greeted) = record {
          first = refl;
          ready = greeted;
          is = refl;
          id = refl;
          intents = asked;
          other = λ s is id.
              let known : Known intents worker w.core.sessions m = knows s is in
              let own : known.at.session ≡ s = same_Some known.at.session s (sym known.at.is ∙ is) in
              let old = among_below known.session 0 w.core.made w.core.sessions sound.numbers known.among in
              let number : known.session.number ≡ w.core.made + 1 =
              same_number worker known.session.number (w.core.made + 1) (omega (arith, old.1, few)) few (sym known.at.id ∙ (ap (λ (s : ClientSession). s.id) own ∙ id)) in
              absurd (above w.core.made known.session.number old.1 number);
        } in
        let first : At intents worker (with_dispatch m (Ready greeted) 1) begins (Ready greeted ∷ []) = at_first intents worker m begins [] (Ready greeted) greeting in
        let rest = told_good intents worker xs begins (Ready greeted ∷ []) greetings [] here (begins_told ∙ ap (λ ds. Ready greeted ∷ ds) (sym (append_none greetings))) keeps (with_dispatch m (Ready greeted) 1) first in
        let items : List Item = told_items 0 (Ready greeted ∷ greetings) in
        let comes : Comes intents worker xs m 1 (Ready greeted) = record { session = begins; among = here; front = []; back = greetings; split = begins_told; number = refl; next = inr greeting } in
        let end : At intents worker (all_minded m items) begins (dispatches begins.sent) = subst (At intents worker (all_minded m items) begins) (sym begins_told) rest.1 in
        record {
          items = items;
          are = flown_told text 0 (Ready greeted ∷ greetings) conn;
          good = subst (λ (n : Mind). Good intents worker xs n items) (sym same) (comes, rest.0);
          stage = inr (record {
            ends = λ y among on. elim (among_part y w.core.sessions (begins ∷ []) among) [
              | inl before ↦ absurd (true≢false (sym on ∙ off_among conn y w.core.sessions off before))
              | inr here ↦ elim here [
                | inl last ↦ subst (λ (y : Session Sent). At intents worker (all_minded m (is ++ items)) y (dispatches y.sent)) (sym last)
                    (subst (λ (n : Mind). At intents worker n begins (dispatches begins.sent)) (sym (minded_join m is items ∙ ap (λ n. all_minded n items) same)) end)
                | inr none ↦ absurd none
              ]
            ];
            late = later_join is items (still_later is still) (told_later 0 (Ready greeted ∷ greetings));
            beats = beats;
          });
        }
      where
        above : (made n : ℕ) → n ≤ made → n ≡ made + 1 → ⊥
        above made n le is = omega (arith, le, is)

  -- a session that goes on
  module _ (w new : Worker) (out : List Output) (m : Mind) (is : List Item) (later : List (List ℕ)) where
    abbrev older_items : Option ℕ → List Item
    older_items None = []
    older_items (Some c) = if c == conn then Shut 4000 ∷ [] else []

    older_fly : (older : Option ℕ) → flights conn (older_sends older) ≡ all_flown text (older_items older)
    older_fly None = refl
    older_fly (Some c) = by_test (c == conn)
      where
        by_test : (b : Bool) → (if b then Close 4000 ∷ [] else []) ++ [] ≡ all_flown text (if b then Shut 4000 ∷ [] else [])
        by_test true = refl
        by_test false = refl

    older_still : (older : Option ℕ) → AreStill (older_items older)
    older_still None = tt
    older_still (Some c) = by_test (c == conn)
      where
        by_test : (b : Bool) → AreStill (if b then Shut 4000 ∷ [] else [])
        by_test true = (tt, tt)
        by_test false = tt

    pub goes_on_leaves : (x : Session Sent) (seq : ℕ) → ResumeGoesOn text w conn seq x new out → (known : Known intents w.core.worker w.core.sessions m) → known.session ≡ x → seq ≡ length known.front
        → AreStill is → AreBeats later → Follows w → IsSound new → new.core.worker ≡ w.core.worker → WorkerKeeps new → Leaves text intents conn w.core.worker m is later new out
    goes_on_leaves x seq goes known own number still beats follows sound worker_same keeps =
        let worker : ℕ = w.core.worker in
        let xs : List (Session Sent) = new.core.sessions in
        let here : Session Sent = record x { condition = Attached conn } in
        let found : IsAmong here xs = found_among (is_numbered x.number) xs here goes.here in
        let front : List Dispatch = known.front in
        let back : List Dispatch = known.back in
        let all : dispatches x.sent ≡ front ++ back = ap (λ (x : Session Sent). dispatches x.sent) (sym own) ∙ known.split in
        let at : At intents worker m x front = subst (λ (x : Session Sent). At intents worker m x front) own known.at in
        let first : At intents worker m here front = record { session = at.session; is = at.is; id = at.id; number = at.number; intents = at.intents; folds = at.folds } in
        let own_keeps : SessionKeeps worker here = subst (λ n. SessionKeeps n here) worker_same (all_among (SessionKeeps new.core.worker) here xs keeps found) in
        let told = told_good intents worker xs here front back [] found (all ∙ ap (λ ds. front ++ ds) (sym (append_none back))) own_keeps m first in
        let rest : drop seq (dispatches x.sent) ≡ back = ap (λ n. drop n (dispatches x.sent)) number ∙ (ap (drop (length front)) all ∙ drop-append_seam front back) in
        let older : List Item = older_items (attached x.condition) in
        let texts : List Item = told_items (length front) back in
        let last : ℕ = length (dispatches x.sent) in
        let held : Mind = all_minded m texts in
        let still_held : (g : ℕ) → purge intents g (fold intents g (front ++ back)) ≡ fold intents g (front ++ back) = λ g.
        subst (λ (ds : List Dispatch). purge intents g (fold intents g ds) ≡ fold intents g ds) all
        (subst (λ n. purge n g (fold n g (dispatches x.sent)) ≡ fold n g (dispatches x.sent)) at.intents
        (session_still w x follows (subst (λ (x : Session Sent). IsAmong x w.core.sessions) own known.among) g)) in
        let go : GoesOn intents worker xs held last = record {
          session = here;
          among = found;
          front = front ++ back;
          back = [];
          split = all ∙ sym (append_none (front ++ back));
          number = ap length all;
          at = told.1;
          still = still_held;
        } in
        let ended : At intents worker (minded held (Said (Resumed last))) here (dispatches here.sent) =
        subst (At intents worker (minded held (Said (Resumed last))) here) (sym all) (at_resumed intents worker held here (front ++ back) last told.1 (ap length all) still_held) in
        let items : List Item = older ++ (texts ++ Said (Resumed last) ∷ []) in
        let same : all_minded m is ≡ m = all_still_minded m is still in
        let quiet : all_minded m older ≡ m = all_still_minded m older (older_still (attached x.condition)) in
        let minds : all_minded m items ≡ minded held (Said (Resumed last)) =
        minded_join m older (texts ++ Said (Resumed last) ∷ []) ∙ (ap (λ n. all_minded n (texts ++ Said (Resumed last) ∷ [])) quiet ∙ minded_join m texts (Said (Resumed last) ∷ [])) in
        let good : Good intents worker xs m items =
        good_join intents worker xs m older (texts ++ Said (Resumed last) ∷ []) (still_good intents worker xs m older (older_still (attached x.condition)))
        (subst (λ (n : Mind). Good intents worker xs n (texts ++ Said (Resumed last) ∷ [])) (sym quiet)
        (good_join intents worker xs m texts (Said (Resumed last) ∷ []) told.0 (go, tt))) in
        record {
          items = items;
          are =
              ap (flights conn) goes.outputs
              ∙ (flat_map-append (flight conn) (older_sends (attached x.condition)) _
              ∙ (ap (λ fs. fs ++ flights conn (sends text (Attached conn) seq (drop seq (dispatches x.sent)) ++ Says conn (Resumed last) ∷ [])) (older_fly (attached x.condition))
              ∙ (ap (λ fs. all_flown text older ++ fs) (flat_map-append (flight conn) (sends text (Attached conn) seq (drop seq (dispatches x.sent))) (Says conn (Resumed last) ∷ [])
              ∙ (ap (λ fs. fs ++ flights conn (Says conn (Resumed last) ∷ [])) (ap (λ ds. flights conn (sends text (Attached conn) seq ds)) rest ∙ (flown_told text seq back conn ∙ ap (λ n. all_flown text (told_items n back)) number))
              ∙ (ap (λ b. all_flown text texts ++ ((if b then Text (said (Resumed last)) ∷ [] else []) ++ [])) (same_id conn)
              ∙ sym (map_join (flown text) texts (Said (Resumed last) ∷ [])))))
              ∙ sym (map_join (flown text) older (texts ++ Said (Resumed last) ∷ [])))));
          good = subst (λ (n : Mind). Good intents worker xs n items) (sym same) good;
          stage = inr (record {
            ends = λ y among on.
                let one : y ≡ here = one_on conn xs here y (sound.alone conn) found among (same_id conn) on in
                subst (λ (y : Session Sent). At intents worker (all_minded m (is ++ items)) y (dispatches y.sent)) (sym one)
                (subst (λ (n : Mind). At intents worker n here (dispatches here.sent)) (sym (minded_join m is items ∙ (ap (λ n. all_minded n items) same ∙ minds))) ended);
            late = later_join is items (still_later is still) (later_join older (texts ++ Said (Resumed last) ∷ []) (still_later older (older_still (attached x.condition)))
                (later_join texts (Said (Resumed last) ∷ []) (told_later (length front) back) (tt, tt)));
            beats = beats;
          });
        }
