-- Each dispatch that goes out has its number in the session that the connection has.
use Rattle.std.proofs.Common.{◌≡◌, ℕ, ◌+◌, ◌-◌, ◌≤◌, List, [], ◌∷◌, ◌++◌, Bool, true, false, Option, Some, None, take, drop, if◌then◌else◌, length, map, refl, sym, ap, subst, ◌∙◌, append_assoc, inl, inr}
use Rattle.std.specs.Prelude.{All, flat_map, max, nat_lt}
use Rattle.std.specs.List.{find}
use Rattle.std.specs.Option.{option_map_or}
use Rattle.std.proofs.lemmas.Option.{same_Some}
use Rattle.gateway_frames.specs.declared.frame.Ask.{Ask}
use Rattle.edit_apply.specs.Edits.{after}
use Rattle.guild_model.specs.Record.{Record}
use Rattle.guild_model.specs.declared.presence.Status.{Status}
use Rattle.gateway_frames.specs.declared.frame.VoiceAsk.{VoiceAsk}
use Rattle.wishes.specs.Wishes.{presence_wish, voice_wish}
use Rattle.std.proofs.lemmas.List.Elements.{All-append, All-cons, All-nil, All-weaker}
use Rattle.std.proofs.lemmas.List.{length-append, length-map, length-take-le, take-append-drop}
use Rattle.dispatch_types.specs.declared.dispatch.Dispatch.{Dispatch}
use Rattle.dispatch_types.specs.declared.viewer.Viewer.{Viewer}
use Rattle.edit_apply.specs.declared.Edit.{Edit}
use Rattle.gateway_frames.specs.declared.out.Out.TheVariants.{Hello, Ack, Invalid, Resumed}
use Rattle.session_core.specs.declared.bot.Bot.{Bot}
use Rattle.session_core.specs.declared.reply.Mark.TheVariants.{Start, Entry}
use Rattle.session_core.specs.State.{State, Session, Condition, Attached, Detached, Ended, is_on, has_connection, opened, gone}
use Rattle.replay_ring.specs.Replay.{Replay, texts_after}
use Rattle.session_core.specs.Frames.{Move, Nothing, Answers, ClosesWith, Begins, Denies, Resumes, Wants, Want, Members, Presence, Voice}
use Rattle.session_core.specs.Ends.{silent_of, session_conns}
use Rattle.world_law.specs.Inputs.{Closed, Frame, Look, Lost, Open, Rebase, Tick, open_sends, taken}
use Rattle.world_law.specs.Outputs.{Closes, Output, Says, Sends, Wishes, sends, texts_from}
use Rattle.world_law.specs.Keeping.{Cursors, record_at}
use Rattle.world_law.specs.Sends.{EachSendHolds, HasSent, IsNumber, OutputHolds}
use Rattle.world_law.proofs.Resumes.{Fits, IsHeld, fits_text, resent}
use Rattle.world_law.specs.Model.{Seen, Worker, cursors, in_model, record_of, records_of, seen_with}
use Rattle.world_law.specs.Sent.{Sent, SentDispatch, chunks_told, dispatch_of, dispatches}
use Rattle.world_law.specs.Wants.{after_answer, after_want, answer_to, asked, change_first, is_numbered, numbered, presence_wishes, voice_wishes, want_sends, wished}
use Rattle.world_law.proofs.Entered.{batch, entry_due, next_record, told_entry}
use Rattle.world_law.specs.Greeting.{begins_with, first_dispatches}
use Rattle.world_law.proofs.Folds.{dispatches_told, same_id}
use Rattle.world_law.specs.Looks.{entered, entry_sends, look_sends, look_sends_by, looked, looked_by, rebase_sends_by, rebased_by}
use Rattle.world_law.proofs.Found.{found_here}
use Rattle.world_law.specs.Frames.{frame_sends, framed, move_at, older_sends}
use Rattle.world_law.proofs.Replays.{length_texts}
use Rattle.world_law.proofs.Lists.{map_join}
use Rattle.world_law.proofs.GoesOn.{resumed_has}

-- numbers stay
number_stays : (n : ℕ) (d : Dispatch) (xs ys : List Dispatch) → IsNumber n d xs → IsNumber n d (xs ++ ys)
number_stays n d xs ys (front, (back, (is, count))) = (front, (back ++ ys, (ap (λ zs. zs ++ ys) is ∙ append_assoc front (d ∷ back) ys, count)))

-- a session that the connection has, and the number of a dispatch of it
abbrev IsSentOn : ℕ → ℕ → Dispatch → Session Sent → Type 0
IsSentOn conn n d x = (is_on conn x.condition ≡ true) × IsNumber n d (map dispatch_of x.sent.told)

module _ (text : ℕ → Dispatch → List ℕ) where
  -- the sends of one session
  module _ (xs : List (Session Sent)) (conn : ℕ) (whole : List Dispatch) (here : (n : ℕ) (d : Dispatch) → IsNumber n d whole → HasSent conn n d xs) where
    sends_from : (front ds : List Dispatch) → whole ≡ front ++ ds → All (OutputHolds text xs) (sends text (Attached conn) (length front) ds)
    sends_from front [] is = All-nil (OutputHolds text xs)
    sends_from front (d ∷ ds) is =
        All-cons (OutputHolds text xs) (Sends conn (text (length front + 1) d)) (sends text (Attached conn) (length front + 1) ds)
        (length front + 1, (d, (refl, here (length front + 1) d (front, (ds, (is, refl))))))
        (subst (λ (n : ℕ). All (OutputHolds text xs) (sends text (Attached conn) n ds)) (length-append front (d ∷ []))
        (sends_from (front ++ d ∷ []) ds (is ∙ sym (append_assoc front (d ∷ []) ds))))

  -- an entry leaves each session's connection and numbers
  module _ (seen : Seen) (g : ℕ) (e : Edit) where
    abbrev told_sends : Session Sent → List Output
    told_sends x = sends text x.condition (length x.sent.told) (entry_due seen g e x)

    session_stays : (conn n : ℕ) (d : Dispatch) (x : Session Sent) → IsSentOn conn n d x → IsSentOn conn n d (told_entry seen g e x)
    session_stays conn n d x = by_condition x.condition
      where
        by_condition : (condition : Condition) → IsSentOn conn n d (record x { condition = condition }) → IsSentOn conn n d (told_entry seen g e (record x { condition = condition }))
        by_condition (Attached own) (at, number) =
            (at, subst (λ (ds : List Dispatch). IsNumber n d ds) (sym (map_join dispatch_of x.sent.told (batch seen g e x))) (number_stays n d (map dispatch_of x.sent.told) (map dispatch_of (batch seen g e x)) number))
        by_condition (Detached since) (at, number) = absurd (cc at)
        by_condition Ended (at, number) = absurd (cc at)

    sent_stays : (conn n : ℕ) (d : Dispatch) (xs : List (Session Sent)) → HasSent conn n d xs → HasSent conn n d (map (told_entry seen g e) xs)
    sent_stays conn n d [] h = h
    sent_stays conn n d (x ∷ xs) (inl h) = inl (session_stays conn n d x h)
    sent_stays conn n d (x ∷ xs) (inr h) = inr (sent_stays conn n d xs h)

    output_stays : (xs : List (Session Sent)) (o : Output) → OutputHolds text xs o → OutputHolds text (map (told_entry seen g e) xs) o
    output_stays xs (Says conn out) h = tt
    output_stays xs (Sends conn sent) (n, (d, (is, h))) = (n, (d, (is, sent_stays conn n d xs h)))
    output_stays xs (Closes conn code) h = tt
    output_stays xs (Wishes guild edit) h = tt

    own_sends : (x : Session Sent) (ys : List (Session Sent)) → ((conn n : ℕ) (d : Dispatch) → IsSentOn conn n d (told_entry seen g e x) → HasSent conn n d ys) → All (OutputHolds text ys) (told_sends x)
    own_sends x ys = by_condition x.condition
      where
        by_condition : (condition : Condition) → ((conn n : ℕ) (d : Dispatch) → IsSentOn conn n d (told_entry seen g e (record x { condition = condition })) → HasSent conn n d ys) → All (OutputHolds text ys) (told_sends (record x { condition = condition }))
        by_condition (Attached own) here =
            let ds : List Dispatch = entry_due seen g e x in
            let all : map dispatch_of (x.sent.told ++ batch seen g e x) ≡ map dispatch_of x.sent.told ++ ds = map_join dispatch_of x.sent.told (batch seen g e x) ∙ ap (λ xs. map dispatch_of x.sent.told ++ xs) (dispatches_told (Entry g (length (seen g) + 1)) (cursors seen) (cursors (seen_with seen g e)) ds) in
            subst (λ (n : ℕ). All (OutputHolds text ys) (sends text (Attached own) n ds)) (length-map x.sent.told dispatch_of)
            (sends_from ys own (map dispatch_of (x.sent.told ++ batch seen g e x)) (λ n d number. here own n d (same_id own, number)) (map dispatch_of x.sent.told) ds all)
        by_condition (Detached since) here = All-nil (OutputHolds text ys)
        by_condition Ended here = All-nil (OutputHolds text ys)

    entry_holds : (xs ys : List (Session Sent)) → ((conn n : ℕ) (d : Dispatch) → HasSent conn n d (map (told_entry seen g e) xs) → HasSent conn n d ys) → All (OutputHolds text ys) (flat_map told_sends xs)
    entry_holds [] ys into = All-nil (OutputHolds text ys)
    entry_holds (x ∷ xs) ys into = All-append (OutputHolds text ys) (told_sends x) (flat_map told_sends xs)
        (own_sends x ys (λ conn n d h. into conn n d (inl h)))
        (entry_holds xs ys (λ conn n d h. into conn n d (inr h)))

  sent_through : (es : List Edit) (w : Worker) (g : ℕ) (s : Record) → s ≡ record_of w.logs.seen g → (o : Output) → OutputHolds text w.core.sessions o
      → OutputHolds text (looked (in_model text) w g s es).core.sessions o
  sent_through [] w g s is o h = h
  sent_through (e ∷ es) w g s is o h =
      sent_through es (entered (in_model text) w g s e) g (after s e) (next_record w.logs.seen g e s is) o
      (subst (λ (r : Record). OutputHolds text (entered (in_model text) w g r e).core.sessions o) (sym is) (output_stays w.logs.seen g e w.core.sessions o h))

  -- one entry, by the record before it
  entered_holds : (w : Worker) (g : ℕ) (s : Record) (e : Edit) → s ≡ record_of w.logs.seen g
      → All (OutputHolds text (entered (in_model text) w g s e).core.sessions) (flat_map (entry_sends (in_model text) s e) w.core.sessions)
  entered_holds w g s e is =
      subst (λ (r : Record). All (OutputHolds text (entered (in_model text) w g r e).core.sessions) (flat_map (entry_sends (in_model text) r e) w.core.sessions)) (sym is)
      (entry_holds w.logs.seen g e w.core.sessions (map (told_entry w.logs.seen g e) w.core.sessions) (λ conn n d h. h))

  look_holds : (es : List Edit) (w : Worker) (g : ℕ) (s : Record) → s ≡ record_of w.logs.seen g
      → All (OutputHolds text (looked (in_model text) w g s es).core.sessions) (look_sends (in_model text) w g s es)
  look_holds [] w g s is = All-nil (OutputHolds text w.core.sessions)
  look_holds (e ∷ es) w g s is =
      let next : Worker = entered (in_model text) w g s e in
      let here : after s e ≡ record_of next.logs.seen g = next_record w.logs.seen g e s is in
      All-append (OutputHolds text (looked (in_model text) next g (after s e) es).core.sessions) (flat_map (entry_sends (in_model text) s e) w.core.sessions) (look_sends (in_model text) next g (after s e) es)
      (All-weaker (OutputHolds text next.core.sessions) (OutputHolds text (looked (in_model text) next g (after s e) es).core.sessions) (sent_through es next g (after s e) here)
      (flat_map (entry_sends (in_model text) s e) w.core.sessions) (entered_holds w g s e is))
      (look_holds es next g (after s e) here)

  last_session : (conn n : ℕ) (d : Dispatch) (xs : List (Session Sent)) (x : Session Sent) → IsSentOn conn n d x → HasSent conn n d (xs ++ x ∷ [])
  last_session conn n d [] x h = inl h
  last_session conn n d (y ∷ xs) x h = inr (last_session conn n d xs x h)

  start_holds : (w : Worker) (conn : ℕ) (bot : Bot) (v : Viewer) → All (OutputHolds text (framed (in_model text) w conn (Begins bot v)).core.sessions) (sends text (Attached conn) 0 (first_dispatches (in_model text) w v bot.name (w.core.made + 1)))
  start_holds w conn bot v =
      let ds : List Dispatch = first_dispatches (in_model text) w v bot.name (w.core.made + 1) in
      let x : Session Sent = record { number = w.core.made + 1; token = bot.token; name = bot.name; viewer = v; condition = Attached conn; sent = begins_with (in_model text) w bot v (w.core.made + 1) } in
      sends_from (w.core.sessions ++ x ∷ []) conn (map dispatch_of x.sent.told) (λ n d number. last_session conn n d w.core.sessions x (same_id conn, number)) [] ds
      (dispatches_told Start (cursors w.logs.seen) (cursors w.logs.seen) ds)

  one_holds : (xs : List (Session Sent)) (o : Output) → OutputHolds text xs o → All (OutputHolds text xs) (o ∷ [])
  one_holds xs o h = All-cons (OutputHolds text xs) o [] h (All-nil (OutputHolds text xs))

  older_holds : (xs : List (Session Sent)) (older : Option ℕ) → All (OutputHolds text xs) (older_sends older)
  older_holds xs None = All-nil (OutputHolds text xs)
  older_holds xs (Some c) = one_holds xs (Closes c 4000) tt

  -- a session that resumes is sent what it was sent
  goes_on_holds : (w : Worker) (conn number : ℕ) (older : Option ℕ) (seq : ℕ) (held : Replay) → IsHeld text w.core number seq held
      → All (OutputHolds text (framed (in_model text) w conn (Resumes number older seq held)).core.sessions) (frame_sends (in_model text) w conn (Resumes number older seq held))
  goes_on_holds w conn number older seq held of =
      let x : Session Sent = of.session in
      let ys : List (Session Sent) = (framed (in_model text) w conn (Resumes number older seq held)).core.sessions in
      let ds : List Dispatch = dispatches x.sent in
      let Low : Replay → Type 0 = λ r. r.last - length r.held ≤ seq in
      let High : Replay → Type 0 = λ r. seq ≤ r.last in
      let count : length (texts_from text 0 ds) ≡ length ds = length_texts text 0 ds in
      let within : seq ≤ length ds = subst (λ n. seq ≤ n) count (subst High (sym of.same) of.high) in
      let is : map (λ t. Sends conn t) (texts_after held seq) ≡ sends text (Attached conn) seq (drop seq ds) =
      ap (λ (r : Replay). map (λ t. Sends conn t) (texts_after r seq)) (sym of.same) ∙ resent text conn x.sent seq (subst Low (sym of.same) of.low) (subst High (sym of.same) of.high) in
      let again : All (OutputHolds text ys) (sends text (Attached conn) seq (drop seq ds)) =
      subst (λ (n : ℕ). All (OutputHolds text ys) (sends text (Attached conn) n (drop seq ds))) (length-take-le seq ds within)
      (sends_from ys conn ds (λ n d is. resumed_has w.core conn w.now x number of.found older n d is) (take seq ds) (drop seq ds) (sym (take-append-drop seq ds))) in
      All-append (OutputHolds text ys) (older_sends older) (map (λ t. Sends conn t) (texts_after held seq) ++ Says conn (Resumed held.last) ∷ [])
      (older_holds ys older)
      (All-append (OutputHolds text ys) (map (λ t. Sends conn t) (texts_after held seq)) (Says conn (Resumed held.last) ∷ [])
      (subst (λ (out : List Output). All (OutputHolds text ys) out) (sym is) again)
      (one_holds ys (Says conn (Resumed held.last)) tt))

  -- a session that is told an answer has its chunks, and its numbers stay
  changed_has : (conn n : ℕ) (d : Dispatch) (p : Session Sent → Bool) (f : Session Sent → Session Sent) (x : Session Sent) → IsSentOn conn n d (f x)
      → (xs : List (Session Sent)) → find p xs ≡ Some x → HasSent conn n d (change_first p f xs)
  changed_has conn n d p f x here [] found = absurd (cc found)
  changed_has conn n d p f x here (y ∷ xs) found = by_test (p y) found (changed_has conn n d p f x here xs)
    where
      by_test : (b : Bool) → (if b then Some y else find p xs) ≡ Some x → (find p xs ≡ Some x → HasSent conn n d (change_first p f xs))
          → HasSent conn n d (if b then f y ∷ xs else y ∷ change_first p f xs)
      by_test true found rest = inl (subst (λ (z : Session Sent). IsSentOn conn n d (f z)) (sym (same_Some y x found)) here)
      by_test false found rest = inr (rest found)

  pub chunk_dispatches : (made : ℕ) (now : Cursors) (ds : List Dispatch) → map dispatch_of (chunks_told made now ds) ≡ ds
  chunk_dispatches made now [] = refl
  chunk_dispatches made now (d ∷ ds) = ap (λ xs. d ∷ xs) (chunk_dispatches (made + 1) now ds)

  answer_holds : (w : Worker) (ask : Ask) (number : ℕ) (x : Session Sent) → numbered number w.core.sessions ≡ Some x
      → All (OutputHolds text (asked (in_model text) w ask number).core.sessions) (want_sends (in_model text) w (Members ask) x)
  answer_holds w ask number x found = by_condition x.condition refl
    where
      ys : List (Session Sent)
      ys = (asked (in_model text) w ask number).core.sessions

      ds : List Dispatch
      ds = answer_to (in_model text) w ask x

      more : List SentDispatch
      more = chunks_told w.chunks (cursors w.logs.seen) ds

      whole : map dispatch_of (x.sent.told ++ more) ≡ map dispatch_of x.sent.told ++ ds
      whole = map_join dispatch_of x.sent.told more ∙ ap (λ xs. map dispatch_of x.sent.told ++ xs) (chunk_dispatches w.chunks (cursors w.logs.seen) ds)

      by_condition : (condition : Condition) → x.condition ≡ condition → All (OutputHolds text ys) (sends text condition (length x.sent.told) ds)
      by_condition (Attached own) is =
          let on : is_on own x.condition ≡ true = ap (is_on own) is ∙ same_id own in
          subst (λ (n : ℕ). All (OutputHolds text ys) (sends text (Attached own) n ds)) (length-map x.sent.told dispatch_of)
          (sends_from ys own (map dispatch_of (x.sent.told ++ more))
          (λ n d number_is. changed_has own n d (is_numbered number) (after_answer (in_model text) w ask) x (on, number_is) w.core.sessions found)
          (map dispatch_of x.sent.told) ds whole)
      by_condition (Detached since) is = All-nil (OutputHolds text ys)
      by_condition Ended is = All-nil (OutputHolds text ys)

  -- a wish is no dispatch
  wished_holds : (xs : List (Session Sent)) (g : ℕ) (o : Option Edit) → All (OutputHolds text xs) (wished g o)
  wished_holds xs g None = All-nil (OutputHolds text xs)
  wished_holds xs g (Some e) = one_holds xs (Wishes g e) tt

  wishes_hold : (xs : List (Session Sent)) (v : Viewer) (status : Status) (records : List Record) → All (OutputHolds text xs) (presence_wishes v status records)
  wishes_hold xs v status [] = All-nil (OutputHolds text xs)
  wishes_hold xs v status (s ∷ records) =
      All-append (OutputHolds text xs) (wished s.id (presence_wish s v status)) (presence_wishes v status records) (wished_holds xs s.id (presence_wish s v status)) (wishes_hold xs v status records)

  voice_holds : (xs : List (Session Sent)) (v : Viewer) (ask : VoiceAsk) (o : Option Record) → All (OutputHolds text xs) (voice_wishes v ask o)
  voice_holds xs v ask None = All-nil (OutputHolds text xs)
  voice_holds xs v ask (Some s) = wished_holds xs s.id (voice_wish s v ask)

  want_holds : (w : Worker) (number : ℕ) (want : Want) (o : Option (Session Sent)) → numbered number w.core.sessions ≡ o
      → All (OutputHolds text (after_want (in_model text) number want w).core.sessions) (option_map_or (want_sends (in_model text) w want) o [])
  want_holds w number want None none = All-nil (OutputHolds text (after_want (in_model text) number want w).core.sessions)
  want_holds w number (Members ask) (Some x) found = answer_holds w ask number x found
  want_holds w number (Presence status) (Some x) found = wishes_hold w.core.sessions x.viewer status (records_of w.logs)
  want_holds w number (Voice ask) (Some x) found = voice_holds w.core.sessions x.viewer ask (record_at (in_model text) w.logs ask.guild)

  frame_holds : (w : Worker) (conn : ℕ) (move : Move) → Fits text w.core move → All (OutputHolds text (framed (in_model text) w conn move).core.sessions) (frame_sends (in_model text) w conn move)
  frame_holds w conn Nothing fits = All-nil (OutputHolds text w.core.sessions)
  frame_holds w conn Answers fits = one_holds w.core.sessions (Says conn Ack) tt
  frame_holds w conn (ClosesWith code) fits = one_holds (gone conn (Detached w.now) w.core).sessions (Closes conn code) tt
  frame_holds w conn (Begins bot v) fits = start_holds w conn bot v
  frame_holds w conn Denies fits = one_holds w.core.sessions (Says conn (Invalid false)) tt
  frame_holds w conn (Resumes number older seq held) fits = goes_on_holds w conn number older seq held fits
  frame_holds w conn (Wants number (Members ask)) fits = want_holds w number (Members ask) (numbered number w.core.sessions) refl
  frame_holds w conn (Wants number (Presence status)) fits = want_holds w number (Presence status) (numbered number w.core.sessions) refl
  frame_holds w conn (Wants number (Voice ask)) fits = want_holds w number (Voice ask) (numbered number w.core.sessions) refl

  open_holds : (w : Worker) (conn : ℕ) → All (OutputHolds text (opened conn w.now w.core).sessions) (open_sends conn w.core)
  open_holds w conn = by_connection (has_connection conn w.core) (nat_lt (length w.core.connections) 64)
    where
      by_connection : (b c : Bool) → let s : State Sent = if b then w.core else (if c then record w.core { connections = w.core.connections ++ record { number = conn; last_heartbeat_ms = w.now; times = [] } ∷ [] } else w.core) in
          All (OutputHolds text s.sessions) (if b then [] else (if c then Says conn (Hello 41250) ∷ [] else Closes conn 4000 ∷ []))
      by_connection true c = All-nil (OutputHolds text w.core.sessions)
      by_connection false true = one_holds w.core.sessions (Says conn (Hello 41250)) tt
      by_connection false false = one_holds w.core.sessions (Closes conn 4000) tt

  tick_holds : (xs : List (Session Sent)) (conns : List ℕ) → All (OutputHolds text xs) (map (λ conn. Closes conn 4000) conns)
  tick_holds xs [] = All-nil (OutputHolds text xs)
  tick_holds xs (conn ∷ conns) = All-cons (OutputHolds text xs) (Closes conn 4000) (map (λ conn. Closes conn 4000) conns) tt (tick_holds xs conns)

pub each_send_holds : EachSendHolds
unfolding EachSendHolds
each_send_holds text w (Look g es) = by_found (record_at (in_model text) w.logs g) refl
  where
    by_found : (o : Option Record) → record_at (in_model text) w.logs g ≡ o → All (OutputHolds text (looked_by (in_model text) o w g es).core.sessions) (look_sends_by (in_model text) o w g es)
    by_found None e = All-nil (OutputHolds text w.core.sessions)
    by_found (Some s) e = look_holds text es w g s (found_here text w.logs g s e).1
each_send_holds text w (Rebase g log) = by_found (record_at (in_model text) w.logs g)
  where
    by_found : (o : Option Record) → All (OutputHolds text (rebased_by (in_model text) o w g log).core.sessions) (rebase_sends_by o w.core)
    by_found None = All-nil (OutputHolds text w.core.sessions)
    by_found (Some s) = tick_holds text (rebased_by (in_model text) (Some s) w g log).core.sessions (session_conns w.core)
each_send_holds text w (Open conn) = open_holds text w conn
each_send_holds text w (Frame conn received) = frame_holds text w conn (move_at (in_model text) w conn received) (fits_text text w conn received)
each_send_holds text w (Lost conn) = All-nil (OutputHolds text (taken (in_model text) w (Lost conn)).core.sessions)
each_send_holds text w (Closed conn code) = All-nil (OutputHolds text (taken (in_model text) w (Closed conn code)).core.sessions)
each_send_holds text w (Tick now) = tick_holds text (taken (in_model text) w (Tick now)).core.sessions (silent_of (max w.now now) w.core.connections)
