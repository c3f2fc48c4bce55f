-- What inputs give out for a connection that they are not of.
use Rattle.std.proofs.Common.{◌≡◌, ℕ, ◌+◌, List, [], ◌∷◌, ◌++◌, Bool, true, false, Option, Some, None, if◌then◌else◌, length, map, refl, sym, ap, subst, ◌∙◌, ◌⊎◌, inl, inr}
use Rattle.std.specs.Prelude.{◌==◌, All, flat_map, max, nat_lt}
use Rattle.std.specs.Option.{option_map_or}
use Rattle.std.proofs.lemmas.Bool.{true≢false}
use Rattle.std.proofs.lemmas.Grind.{flat_map-append}
use Rattle.guild_model.specs.Record.{Record}
use Rattle.dispatch_types.specs.declared.dispatch.Dispatch.{Dispatch}
use Rattle.edit_apply.specs.declared.Edit.{Edit}
use Rattle.edit_apply.specs.Edits.{after}
use Rattle.edit_events.specs.Due.{due}
use Rattle.gateway_frames.specs.declared.out.Out.TheVariants.{Hello, Ack, Invalid, Resumed}
use Rattle.gateway_frames.specs.declared.frame.Ask.{Ask}
use Rattle.replay_ring.specs.Replay.{texts_after}
use Rattle.session_core.specs.declared.reply.Mark.TheVariants.{Entry}
use Rattle.session_core.specs.State.{State, Session, Attached, Detached, is_on, is_live, has_connection, released, gone, opened}
use Rattle.session_core.specs.Frames.{Members, Presence, Voice, Move, Nothing, Answers, ClosesWith, Begins, Denies, Resumes, Wants}
use Rattle.session_core.specs.Ends.{is_final, is_overdue, silent_of, session_conns, lost, left, all_gone, ended_if_live, left_of, kept_for}
use Rattle.world_law.specs.Keeping.{record_at}
use Rattle.world_law.specs.Outputs.{Output, Says, Sends, Closes}
use Rattle.world_law.specs.Sent.{Sent, dispatch_of, dispatches, told, chunks_told, ended_at}
use Rattle.world_law.specs.Looks.{after_entry, entry_sends, entered, looked, look_sends, looked_by, look_sends_by, rebased_by, rebase_sends_by}
use Rattle.world_law.specs.Greeting.{first_dispatches, begins_with}
use Rattle.world_law.specs.Wants.{is_numbered, numbered, change_first, after_answer, answer_to, asked, want_sends}
use Rattle.world_law.specs.Frames.{older_sends, framed, frame_sends, move_at}
use Rattle.world_law.specs.Inputs.{Input, Look, Rebase, Open, Frame, Lost, Closed, Tick, taken, outputs, open_sends}
use Rattle.world_law.specs.Model.{Worker, in_model, cursors, seen_with}
use Rattle.world_law.specs.Sends.{AreOff, IsAlone}
use Rattle.world_law.proofs.Alone.{IsSound, alone_off, map_off, entry_keeps}
use Rattle.world_law.proofs.Folds.{dispatches_told}
use Rattle.world_law.proofs.Lists.{append_none, map_join}
use Rattle.world_law.proofs.Sends.{chunk_dispatches}
use Rattle.two_ends.specs.Flights.{Flight, Text, Close, said, flights, flight}
use Rattle.two_ends.proofs.Among.{IsAmong, off_among, among_here}
use Rattle.two_ends.proofs.Minds.{Mind, all_minded, Grows, SessionKeeps, WorkerKeeps, AtEnds}
use Rattle.two_ends.proofs.Growing.{entered_keeps, looked_grows, framed_goes}
use Rattle.two_ends.proofs.ElsewhereStays.{alone_split, IsOne, one_or_off, IsFound, found_split, none_changed, differs, on_is, Stays, same_stays, stays_on, off_stays, each_stays, map_stays, more_stays, other_stays, released_own, ending_own, gone_stays, resumed_stays, IsPlain, plainly, none_if, closes_flights, older_flights, texts_off, wishes_off, voice_off}
use Rattle.two_ends.proofs.ElsewhereTurns.{sends_off, sends_on, Turn, plain_off, turn_off, plain_reaches, turn_reaches, reaches_join}
pub use Rattle.two_ends.proofs.ElsewhereTurns.{IsShut, Reaches}

-- an input is no opening and no frame of a connection
abbrev pub IsElse : ℕ → Input → Type 0
IsElse conn (Look g es) = Unit {0}
IsElse conn (Rebase g log) = Unit {0}
IsElse conn (Open c) = ¬ (c ≡ conn)
IsElse conn (Frame c text) = ¬ (c ≡ conn)
IsElse conn (Lost c) = Unit {0}
IsElse conn (Closed c code) = Unit {0}
IsElse conn (Tick now) = Unit {0}

module _ (text : ℕ → Dispatch → List ℕ) (conn : ℕ) where
  -- ---- entries of a log

  module _ (w : Worker) (g : ℕ) (s : Record) (e : Edit) where
    abbrev told_entry : Session Sent → Session Sent
    told_entry x = after_entry (in_model text) w.logs g s e x

    abbrev told_sent : Session Sent → Sent
    told_sent x = record x.sent { told = x.sent.told ++ told (Entry g (length (w.logs.seen g) + 1)) (cursors w.logs.seen) (cursors (seen_with w.logs.seen g e)) (due s e x.viewer) }

    entry_grows : (x : Session Sent) → is_live x.condition ≡ true → Grows x (told_entry x)
    entry_grows x live =
        let is : told_entry x ≡ record x { sent = told_sent x } = ap (λ (b : Bool). if b then record x { sent = told_sent x } else x) live in
        record {
          number = ap (λ (z : Session Sent). z.number) is;
          viewer = ap (λ (z : Session Sent). z.viewer) is;
          more = due s e x.viewer;
          dispatches =
              ap (λ (z : Session Sent). dispatches z.sent) is
              ∙ (map_join dispatch_of x.sent.told (told (Entry g (length (w.logs.seen g) + 1)) (cursors w.logs.seen) (cursors (seen_with w.logs.seen g e)) (due s e x.viewer))
              ∙ ap (λ ds. dispatches x.sent ++ ds) (dispatches_told (Entry g (length (w.logs.seen g) + 1)) (cursors w.logs.seen) (cursors (seen_with w.logs.seen g e)) (due s e x.viewer)));
        }

    entry_off : (xs : List (Session Sent)) → AreOff conn xs → AreOff conn (map (after_entry (in_model text) w.logs g s e) xs)
    entry_off xs off = map_off (after_entry (in_model text) w.logs g s e) (entry_keeps text w.logs g s e) conn xs off

    entry_alone : (xs : List (Session Sent)) → IsAlone conn xs → IsAlone conn (map (after_entry (in_model text) w.logs g s e) xs)
    entry_alone [] alone = tt
    entry_alone (x ∷ xs) alone = (λ still. by_test (is_on conn x.condition) refl still, entry_alone xs alone.1)
      where
        by_test : (b : Bool) → is_on conn x.condition ≡ b → is_on conn (told_entry x).condition ≡ true → AreOff conn (map (after_entry (in_model text) w.logs g s e) xs)
        by_test true on still = entry_off xs (alone.0 on)
        by_test false off still = absurd (true≢false (sym still ∙ (entry_keeps text w.logs g s e).off conn x off))

    abbrev on_its_way : List (Session Sent) → List Flight
    on_its_way xs = flights conn (flat_map (entry_sends (in_model text) s e) xs)

    quiet : (xs : List (Session Sent)) → AreOff conn xs → on_its_way xs ≡ []
    quiet [] off = refl
    quiet (x ∷ xs) off =
        flat_map-append (flight conn) (entry_sends (in_model text) s e x) (flat_map (entry_sends (in_model text) s e) xs)
        ∙ (ap (λ fs. fs ++ on_its_way xs) (sends_off text conn x.condition (length x.sent.told) (due s e x.viewer) off.0) ∙ quiet xs off.1)

    one_told : (front : List (Session Sent)) (x : Session Sent) (back : List (Session Sent)) → AreOff conn front → AreOff conn back → on_its_way (front ++ x ∷ back) ≡ flights conn (entry_sends (in_model text) s e x)
    one_told [] x back front_off back_off =
        flat_map-append (flight conn) (entry_sends (in_model text) s e x) (flat_map (entry_sends (in_model text) s e) back)
        ∙ (ap (λ fs. flights conn (entry_sends (in_model text) s e x) ++ fs) (quiet back back_off) ∙ append_none (flights conn (entry_sends (in_model text) s e x)))
    one_told (y ∷ front) x back front_off back_off =
        flat_map-append (flight conn) (entry_sends (in_model text) s e y) (flat_map (entry_sends (in_model text) s e) (front ++ x ∷ back))
        ∙ (ap (λ fs. fs ++ on_its_way (front ++ x ∷ back)) (sends_off text conn y.condition (length y.sent.told) (due s e y.viewer) front_off.0) ∙ one_told front x back front_off.1 back_off)

    entry_turn : (xs : List (Session Sent)) → IsAlone conn xs → Turn text conn xs (map (after_entry (in_model text) w.logs g s e) xs) (on_its_way xs)
    unfolding entry_grows
    entry_turn xs alone = by_place (one_or_off conn xs alone)
      where
        by_place : AreOff conn xs ⊎ IsOne conn xs → Turn text conn xs (map (after_entry (in_model text) w.logs g s e) xs) (on_its_way xs)
        by_place (inl off) =
            inl (plainly conn xs (map (after_entry (in_model text) w.logs g s e) xs) (on_its_way xs) (quiet xs off)
            (λ y among on. absurd (true≢false (sym on ∙ off_among conn y (map (after_entry (in_model text) w.logs g s e) xs) (entry_off xs off) among))))
        by_place (inr one) = inr (record {
          session = one.session;
          among = subst (λ (zs : List (Session Sent)). IsAmong one.session zs) (sym one.split) (among_here one.session one.front one.back);
          on = one.on;
          next = told_entry one.session;
          front = map (after_entry (in_model text) w.logs g s e) one.front;
          back = map (after_entry (in_model text) w.logs g s e) one.back;
          after = ap (map (after_entry (in_model text) w.logs g s e)) one.split ∙ map_join (after_entry (in_model text) w.logs g s e) one.front (one.session ∷ one.back);
          front_off = entry_off one.front one.front_off;
          back_off = entry_off one.back one.back_off;
          grows = entry_grows one.session (ap is_live (on_is conn one.session.condition one.on));
          told = ap on_its_way one.split ∙ (one_told one.front one.session one.back one.front_off one.back_off ∙ sends_on text conn one.session (due s e one.session.viewer) one.on);
        })

  look_off : (es : List Edit) (w : Worker) (g : ℕ) (s : Record) → AreOff conn w.core.sessions
      → AreOff conn (looked (in_model text) w g s es).core.sessions × (flights conn (look_sends (in_model text) w g s es) ≡ [])
  look_off [] w g s off = (off, refl)
  look_off (e ∷ es) w g s off =
      let next : Worker = entered (in_model text) w g s e in
      let rest = look_off es next g (after s e) (entry_off w g s e w.core.sessions off) in (
        rest.0,
        flat_map-append (flight conn) (flat_map (entry_sends (in_model text) s e) w.core.sessions) (look_sends (in_model text) next g (after s e) es)
            ∙ (ap (λ fs. fs ++ flights conn (look_sends (in_model text) next g (after s e) es)) (quiet w g s e w.core.sessions off) ∙ rest.1),
      )

  look_reaches : (intents : ℕ) (es : List Edit) (w : Worker) (g : ℕ) (s : Record) (m : Mind) → IsAlone conn w.core.sessions → WorkerKeeps w → AtEnds intents w.core.worker conn m w.core.sessions
      → Reaches text intents w.core.worker conn m (looked (in_model text) w g s es).core.sessions (flights conn (look_sends (in_model text) w g s es))
  look_reaches intents [] w g s m alone keeps ends = record { items = []; are = refl; good = tt; ends = ends; late = tt }
  look_reaches intents (e ∷ es) w g s m alone keeps ends =
      let next : Worker = entered (in_model text) w g s e in
      let last : Worker = looked (in_model text) next g (after s e) es in
      let here : List Output = flat_map (entry_sends (in_model text) s e) w.core.sessions in
      let later : List Output = look_sends (in_model text) next g (after s e) es in
      let kept : WorkerKeeps next = entered_keeps text w g s e keeps in
      let first : Reaches text intents w.core.worker conn m next.core.sessions (flights conn here) =
      turn_reaches text conn intents w.core.worker m w.core.sessions next.core.sessions (flights conn here) (entry_turn w g s e w.core.sessions alone) kept ends in
      let rest : Reaches text intents w.core.worker conn (all_minded m first.items) last.core.sessions (flights conn later) =
      look_reaches intents es next g (after s e) (all_minded m first.items) (entry_alone w g s e w.core.sessions alone) kept first.ends in
      subst (λ (fs : List Flight). Reaches text intents w.core.worker conn m last.core.sessions fs) (sym (flat_map-append (flight conn) here later))
      (reaches_join text conn intents w.core.worker m next.core.sessions last.core.sessions (flights conn here) (flights conn later) (looked_grows text es next g (after s e)) first rest)

  -- ---- a frame of another connection

  asked_turn : (w : Worker) (ask : Ask) (number : ℕ) → IsAlone conn w.core.sessions
      → Turn text conn w.core.sessions (asked (in_model text) w ask number).core.sessions (flights conn (option_map_or (want_sends (in_model text) w (Members ask)) (numbered number w.core.sessions) []))
  asked_turn w ask number alone = by_found (numbered number w.core.sessions) refl
    where
      xs : List (Session Sent)
      xs = w.core.sessions

      f : Session Sent → Session Sent
      f = after_answer (in_model text) w ask

      ys : List (Session Sent)
      ys = change_first (is_numbered number) f xs

      by_on : (x : Session Sent) → IsFound f xs x ys → (b : Bool) → is_on conn x.condition ≡ b → Turn text conn xs ys (flights conn (want_sends (in_model text) w (Members ask) x))
      by_on x found false off =
          inl (plainly conn xs ys (flights conn (want_sends (in_model text) w (Members ask) x)) (sends_off text conn x.condition (length x.sent.told) (answer_to (in_model text) w ask x) off)
          (subst (λ (zs : List (Session Sent)). Stays conn zs ys) (sym found.before)
          (subst (λ (zs : List (Session Sent)). Stays conn (found.front ++ x ∷ found.back) zs) (sym found.after) (other_stays conn found.front x (f x) found.back off))))
      by_on x found true on =
          let apart = alone_split conn found.front x found.back (subst (λ (zs : List (Session Sent)). IsAlone conn zs) found.before alone) on in
          inr (record {
            session = x;
            among = subst (λ (zs : List (Session Sent)). IsAmong x zs) (sym found.before) (among_here x found.front found.back);
            on = on;
            next = f x;
            front = found.front;
            back = found.back;
            after = found.after;
            front_off = apart.0;
            back_off = apart.1;
            grows = record {
              number = refl;
              viewer = refl;
              more = answer_to (in_model text) w ask x;
              dispatches =
                  map_join dispatch_of x.sent.told (chunks_told w.chunks (cursors w.logs.seen) (answer_to (in_model text) w ask x))
                  ∙ ap (λ ds. dispatches x.sent ++ ds) (chunk_dispatches text w.chunks (cursors w.logs.seen) (answer_to (in_model text) w ask x));
            };
            told = sends_on text conn x (answer_to (in_model text) w ask x) on;
          })

      by_found : (o : Option (Session Sent)) → numbered number xs ≡ o → Turn text conn xs ys (flights conn (option_map_or (want_sends (in_model text) w (Members ask)) o []))
      by_found None lacks = inl (plainly conn xs ys [] refl (subst (λ (zs : List (Session Sent)). Stays conn xs zs) (sym (none_changed (is_numbered number) f xs lacks)) (same_stays conn xs)))
      by_found (Some x) found = by_on x (found_split (is_numbered number) f xs x found) (is_on conn x.condition) refl

  frame_turn : (w : Worker) (c : ℕ) (move : Move) → (c == conn) ≡ false → IsAlone conn w.core.sessions
      → Turn text conn w.core.sessions (framed (in_model text) w c move).core.sessions (flights conn (frame_sends (in_model text) w c move))
  frame_turn w c Nothing differ alone = inl (plainly conn w.core.sessions w.core.sessions [] refl (same_stays conn w.core.sessions))
  frame_turn w c Answers differ alone =
      inl (plainly conn w.core.sessions w.core.sessions (flights conn (Says c Ack ∷ [])) (none_if (c == conn) (Text (said Ack)) [] differ) (same_stays conn w.core.sessions))
  frame_turn w c (ClosesWith code) differ alone =
      inl (plainly conn w.core.sessions (map (released c (Detached w.now)) w.core.sessions) (flights conn (Closes c code ∷ [])) (none_if (c == conn) (Close code) [] differ)
      (map_stays conn (released c (Detached w.now)) (released_own conn c w.now) w.core.sessions))
  frame_turn w c (Begins bot viewer) differ alone =
      let x : Session Sent = record {
        number = w.core.made + 1;
        token = bot.token;
        name = bot.name;
        viewer = viewer;
        condition = Attached c;
        sent = begins_with (in_model text) w bot viewer (w.core.made + 1);
      } in
      inl (plainly conn w.core.sessions (w.core.sessions ++ x ∷ []) (flights conn (frame_sends (in_model text) w c (Begins bot viewer)))
      (sends_off text conn (Attached c) 0 (first_dispatches (in_model text) w viewer bot.name (w.core.made + 1)) differ) (more_stays conn w.core.sessions x differ))
  frame_turn w c Denies differ alone =
      inl (plainly conn w.core.sessions w.core.sessions (flights conn (Says c (Invalid false) ∷ [])) (none_if (c == conn) (Text (said (Invalid false))) [] differ) (same_stays conn w.core.sessions))
  frame_turn w c (Resumes number older seq held) differ alone =
      let texts : List Output = map (λ (t : List ℕ). Sends c t) (texts_after held seq) ++ Says c (Resumed held.last) ∷ [] in
      let shut = older_flights conn older in
      inl (record {
        codes = shut.0;
        shut =
            flat_map-append (flight conn) (older_sends older) texts
            ∙ (ap (λ fs. flights conn (older_sends older) ++ fs) (texts_off conn c differ (texts_after held seq) (Resumed held.last)) ∙ (append_none (flights conn (older_sends older)) ∙ shut.1));
        stays = resumed_stays conn c w.now number differ older w.core;
      })
  frame_turn w c (Wants number (Members ask)) differ alone = asked_turn w ask number alone
  frame_turn w c (Wants number (Presence status)) differ alone =
      inl (plainly conn w.core.sessions w.core.sessions _ (by_found (numbered number w.core.sessions)) (same_stays conn w.core.sessions))
    where
      by_found : (o : Option (Session Sent)) → flights conn (option_map_or (want_sends (in_model text) w (Presence status)) o []) ≡ []
      by_found None = refl
      by_found (Some x) = wishes_off conn x.viewer status ((in_model text).records w.logs)
  frame_turn w c (Wants number (Voice ask)) differ alone =
      inl (plainly conn w.core.sessions w.core.sessions _ (by_found (numbered number w.core.sessions)) (same_stays conn w.core.sessions))
    where
      by_found : (o : Option (Session Sent)) → flights conn (option_map_or (want_sends (in_model text) w (Voice ask)) o []) ≡ []
      by_found None = refl
      by_found (Some x) = voice_off conn x.viewer ask (record_at (in_model text) w.logs ask.guild)

  -- ---- other inputs

  rebase_plain : (o : Option Record) (w : Worker) (g : ℕ) (log : List Edit) → IsPlain conn w.core.sessions (rebased_by (in_model text) o w g log).core.sessions (flights conn (rebase_sends_by o w.core))
  rebase_plain None w g log = plainly conn w.core.sessions w.core.sessions [] refl (same_stays conn w.core.sessions)
  rebase_plain (Some s) w g log =
      let shut = closes_flights conn (session_conns w.core) in
      record {
        codes = shut.0;
        shut = shut.1;
        stays = each_stays conn (ended_if_live (ended_at (cursors w.logs.seen))) (ending_own conn (cursors w.logs.seen) (λ x. is_live x.condition)) w.core.sessions;
      }

  open_plain : (w : Worker) (c : ℕ) → (c == conn) ≡ false → IsPlain conn w.core.sessions (opened c w.now w.core).sessions (flights conn (open_sends c w.core))
  open_plain w c differ = by_tests (has_connection c w.core) (nat_lt (length w.core.connections) 64)
    where
      by_tests : (b room : Bool) → let s : State Sent = if b then w.core else (if room then record w.core { connections = w.core.connections ++ record { number = c; last_heartbeat_ms = w.now; times = [] } ∷ [] } else w.core) in
          IsPlain conn w.core.sessions s.sessions (flights conn (if b then [] else (if room then Says c (Hello 41250) ∷ [] else Closes c 4000 ∷ [])))
      by_tests true room = plainly conn w.core.sessions w.core.sessions [] refl (same_stays conn w.core.sessions)
      by_tests false true =
          plainly conn w.core.sessions w.core.sessions (flights conn (Says c (Hello 41250) ∷ [])) (none_if (c == conn) (Text (said (Hello 41250))) [] differ) (same_stays conn w.core.sessions)
      by_tests false false = plainly conn w.core.sessions w.core.sessions (flights conn (Closes c 4000 ∷ [])) (none_if (c == conn) (Close 4000) [] differ) (same_stays conn w.core.sessions)

  lost_stays : (w : Worker) (c : ℕ) → Stays conn w.core.sessions (lost c w.now w.core).sessions
  lost_stays w c = by_test (has_connection c w.core)
    where
      by_test : (b : Bool) → Stays conn w.core.sessions (if b then gone c (Detached w.now) w.core else w.core).sessions
      by_test true = map_stays conn (released c (Detached w.now)) (released_own conn c w.now) w.core.sessions
      by_test false = same_stays conn w.core.sessions

  closed_stays : (w : Worker) (c code : ℕ) → Stays conn w.core.sessions (taken (in_model text) w (Closed c code)).core.sessions
  closed_stays w c code = by_code (is_final code) (has_connection c w.core)
    where
      by_code : (final there : Bool) → Stays conn w.core.sessions (if final then (if there then left (ended_at (cursors w.logs.seen)) c w.core else w.core) else lost c w.now w.core).sessions
      by_code false there = lost_stays w c
      by_code true false = same_stays conn w.core.sessions
      by_code true true = each_stays conn (left_of (ended_at (cursors w.logs.seen)) c) (ending_own conn (cursors w.logs.seen) (λ x. is_on c x.condition)) w.core.sessions

  tick_plain : (w : Worker) (now : ℕ) → IsPlain conn w.core.sessions (taken (in_model text) w (Tick now)).core.sessions (flights conn (outputs (in_model text) w (Tick now)))
  tick_plain w now =
      let time : ℕ = max w.now now in
      let silent : List ℕ = silent_of time w.core.connections in
      let before : State Sent = all_gone silent time w.core in
      let shut = closes_flights conn silent in
      record {
        codes = shut.0;
        shut = shut.1;
        stays =
            stays_on conn w.core.sessions before.sessions (flat_map (kept_for (ended_at (cursors w.logs.seen)) time) before.sessions) (gone_stays conn silent time w.core)
            (each_stays conn (kept_for (ended_at (cursors w.logs.seen)) time) (ending_own conn (cursors w.logs.seen) (λ x. is_overdue time x.condition)) before.sessions);
      }

-- ---- each input

-- a connection without a session gets nothing but closes, and stays without one
pub off_elsewhere : (text : ℕ → Dispatch → List ℕ) (i : Input) (w : Worker) (conn : ℕ) → IsElse conn i → AreOff conn w.core.sessions
    → IsShut conn (taken (in_model text) w i).core.sessions (flights conn (outputs (in_model text) w i))
off_elsewhere text (Look g es) w conn other off = by_found (record_at (in_model text) w.logs g)
  where
    by_found : (o : Option Record) → IsShut conn (looked_by (in_model text) o w g es).core.sessions (flights conn (look_sends_by (in_model text) o w g es))
    by_found None = record { off = off; codes = []; shut = refl }
    by_found (Some s) = let all = look_off text conn es w g s off in record { off = all.0; codes = []; shut = all.1 }
off_elsewhere text (Rebase g log) w conn other off = plain_off text conn w.core.sessions _ _ (rebase_plain text conn (record_at (in_model text) w.logs g) w g log) off
off_elsewhere text (Open c) w conn other off = plain_off text conn w.core.sessions _ _ (open_plain text conn w c (differs c conn other)) off
off_elsewhere text (Frame c received) w conn other off =
    turn_off text conn w.core.sessions _ _ (frame_turn text conn w c (move_at (in_model text) w c received) (differs c conn other) (alone_off conn w.core.sessions off)) off
off_elsewhere text (Lost c) w conn other off = record { off = off_stays conn w.core.sessions (lost c w.now w.core).sessions off (lost_stays text conn w c); codes = []; shut = refl }
off_elsewhere text (Closed c code) w conn other off =
    record { off = off_stays conn w.core.sessions (taken (in_model text) w (Closed c code)).core.sessions off (closed_stays text conn w c code); codes = []; shut = refl }
off_elsewhere text (Tick now) w conn other off = plain_off text conn w.core.sessions _ _ (tick_plain text conn w now) off

-- a client that holds each session on the connection whole still does after what gets on its way to it
pub on_elsewhere : (text : ℕ → Dispatch → List ℕ) (i : Input) (w : Worker) (conn intents : ℕ) (m : Mind) → IsElse conn i → IsSound w → WorkerKeeps w → WorkerKeeps (taken (in_model text) w i)
    → AtEnds intents w.core.worker conn m w.core.sessions → Reaches text intents w.core.worker conn m (taken (in_model text) w i).core.sessions (flights conn (outputs (in_model text) w i))
on_elsewhere text (Look g es) w conn intents m other sound keeps kept ends = by_found (record_at (in_model text) w.logs g)
  where
    by_found : (o : Option Record) → Reaches text intents w.core.worker conn m (looked_by (in_model text) o w g es).core.sessions (flights conn (look_sends_by (in_model text) o w g es))
    by_found None = record { items = []; are = refl; good = tt; ends = ends; late = tt }
    by_found (Some s) = look_reaches text conn intents es w g s m (sound.alone conn) keeps ends
on_elsewhere text (Rebase g log) w conn intents m other sound keeps kept ends =
    plain_reaches text conn intents w.core.worker m w.core.sessions _ _ (rebase_plain text conn (record_at (in_model text) w.logs g) w g log) ends
on_elsewhere text (Open c) w conn intents m other sound keeps kept ends = plain_reaches text conn intents w.core.worker m w.core.sessions _ _ (open_plain text conn w c (differs c conn other)) ends
on_elsewhere text (Frame c received) w conn intents m other sound keeps kept ends =
    let move : Move = move_at (in_model text) w c received in
    turn_reaches text conn intents w.core.worker m w.core.sessions (framed (in_model text) w c move).core.sessions (flights conn (frame_sends (in_model text) w c move))
    (frame_turn text conn w c move (differs c conn other) (sound.alone conn))
    (subst (λ (n : ℕ). All (SessionKeeps n) (framed (in_model text) w c move).core.sessions) (framed_goes text w c move).worker kept) ends
on_elsewhere text (Lost c) w conn intents m other sound keeps kept ends =
    plain_reaches text conn intents w.core.worker m w.core.sessions (lost c w.now w.core).sessions [] (plainly conn w.core.sessions (lost c w.now w.core).sessions [] refl (lost_stays text conn w c)) ends
on_elsewhere text (Closed c code) w conn intents m other sound keeps kept ends =
    plain_reaches text conn intents w.core.worker m w.core.sessions (taken (in_model text) w (Closed c code)).core.sessions []
    (plainly conn w.core.sessions (taken (in_model text) w (Closed c code)).core.sessions [] refl (closed_stays text conn w c code)) ends
on_elsewhere text (Tick now) w conn intents m other sound keeps kept ends = plain_reaches text conn intents w.core.worker m w.core.sessions _ _ (tick_plain text conn w now) ends
