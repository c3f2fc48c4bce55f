-- What is kept of the sessions moves as they do.
use Rattle.std.proofs.Common.{◌≡◌, ℕ, ◌+◌, List, [], ◌∷◌, ◌++◌, Bool, true, false, Option, Some, None, Result, Ok, Err, if◌then◌else◌, suc, length, map, refl, sym, ap, ◌∙◌, append_assoc}
use Rattle.std.specs.Prelude.{◌==◌, ◌||◌, ◌&&◌, not, is_some, option_map, filter, flat_map, nat_lt, nat_le}
use Rattle.std.specs.List.{find, list_any}
use Rattle.std.specs.Str.{bytes_eq}
use Rattle.guild_model.specs.Record.{Record}
use Rattle.guild_replica.specs.Replicas.{GuildCopy}
use Rattle.dispatch_types.specs.declared.viewer.Viewer.{Viewer}
use Rattle.edit_apply.specs.declared.Edit.{Edit}
use Rattle.edit_events.specs.Due.{due}
use Rattle.gateway_frames.specs.declared.frame.Frame.{Frame}
use Rattle.gateway_frames.specs.declared.frame.Frame.TheVariants as frame
use Rattle.gateway_frames.specs.declared.fault.FrameFault.{FrameFault}
use Rattle.gateway_frames.specs.declared.frame.Identify.{Identify}
use Rattle.gateway_frames.specs.Read.{frame_of}
use Rattle.session_core.specs.declared.bot.Bot.{Bot}
use Rattle.session_core.specs.declared.reply.Mark.TheVariants.{Entry}
use Rattle.session_core.specs.State.{State, Session, Condition, Attached, Detached, Ended, Connection, is_on, is_live, has_connection, has_session, session_on, number_on, released, opened, gone, begun}
use Rattle.session_core.specs.Identify.{authorized_of, identified, bot_of}
use Rattle.replay_ring.specs.Replay.{Replay}
use Rattle.session_core.specs.Frames.{Move, Nothing, Answers, ClosesWith, Begins, Denies, Resumes, Wants, identify_move, resume_move, move_before_session, read_move, move_of, moved, framed, as_kept}
use Rattle.session_core.specs.Resume.{session_id, session_named, joined, resumed, resume_by, resume_answer}
use Rattle.gateway_frames.specs.declared.frame.Resume.{Resume}
use Rattle.session_core.specs.Rate.{is_rated, frame_counted}
use Rattle.session_core.specs.Ends.{is_final, lost, all_gone, left_of, left, client_closed, kept_for, expired, ticked, silent_of, connection_number, all_ended, ended_if_live, session_conns}
use Rattle.world_law.specs.Keeping.{Cursors}
use Rattle.world_law.specs.Model.{Seen, Worker, cursors, record_of, replay, seen_with}
use Rattle.world_law.specs.Sent.{Sent, ended_at}
use Rattle.world_law.specs.Looks.{after_entry, entry_sends}
use Rattle.world_law.proofs.Lists.{append_none, map_join}
use Rattle.world_law.proofs.Entered.{batch, told_entry}
use Rattle.world_law.specs.Greeting.{begins_with}
use Rattle.worker_core.specs.Represents.{counted, kept, kept_session}
use Rattle.world_law.specs.Spent.{entry_spends, is_past}
use Rattle.worker_core.specs.InCode.{wire_model, held_with, in_code, wire_text}
use Rattle.world_law.proofs.Replays.{last_is, replay_told}
use Rattle.world_law.specs.Outputs.{sends}

pub flat_map_join : {A B : Type 0} (f : A → List B) (xs ys : List A) → flat_map f (xs ++ ys) ≡ flat_map f xs ++ flat_map f ys
flat_map_join f [] ys = refl
flat_map_join f (x ∷ xs) ys = ap (λ zs. f x ++ zs) (flat_map_join f xs ys) ∙ sym (append_assoc (f x) (flat_map f xs) (flat_map f ys))

or_false : (b : Bool) → (b || false) ≡ b
or_false true = refl
or_false false = refl

pub any_join : {A : Type 0} (p : A → Bool) (xs ys : List A) → list_any p (xs ++ ys) ≡ (list_any p xs || list_any p ys)
any_join p [] ys = refl
any_join p (x ∷ xs) ys = by_test (p x) (any_join p xs ys)
  where
    by_test : (b : Bool) → list_any p (xs ++ ys) ≡ (list_any p xs || list_any p ys) → (b || list_any p (xs ++ ys)) ≡ ((b || list_any p xs) || list_any p ys)
    by_test true rest = refl
    by_test false rest = rest

-- one entry
module _ (seen : Seen) (g : ℕ) (e : Edit) (replicas : List GuildCopy) where
  abbrev here : Record
  here = record_of seen g

  one_told : (x : Session Sent) → kept_session (told_entry seen g e x) ≡ map (after_entry in_code replicas g here e) (kept_session x)
  one_told x = by_condition x.condition
    where
      more : replay wire_text (record x.sent { told = x.sent.told ++ batch seen g e x }) ≡ held_with (due here e x.viewer) (replay wire_text x.sent)
      more = replay_told wire_text x.sent (Entry g (length (seen g) + 1)) (cursors seen) (cursors (seen_with seen g e)) (due here e x.viewer)

      by_condition : (condition : Condition) → kept_session (told_entry seen g e (record x { condition = condition })) ≡ map (after_entry in_code replicas g here e) (kept_session (record x { condition = condition }))
      by_condition (Attached conn) = ap (λ r. record { number = x.number; token = x.token; name = x.name; viewer = x.viewer; condition = Attached conn; sent = r } ∷ []) more
      by_condition (Detached since) = ap (λ r. record { number = x.number; token = x.token; name = x.name; viewer = x.viewer; condition = Detached since; sent = r } ∷ []) more
      by_condition Ended = refl

  pub each_told : (xs : List (Session Sent)) → flat_map kept_session (map (told_entry seen g e) xs) ≡ map (after_entry in_code replicas g here e) (flat_map kept_session xs)
  each_told [] = refl
  each_told (x ∷ xs) =
      ap (λ ys. ys ++ flat_map kept_session (map (told_entry seen g e) xs)) (one_told x)
      ∙ (ap (λ ys. map (after_entry in_code replicas g here e) (kept_session x) ++ ys) (each_told xs) ∙ sym (map_join (after_entry in_code replicas g here e) (kept_session x) (flat_map kept_session xs)))

-- what goes out for it, and whether a count is spent
module _ (s : Record) (e : Edit) where
  one_sends : (x : Session Sent) → entry_sends wire_model s e x ≡ flat_map (entry_sends in_code s e) (kept_session x)
  one_sends x = by_condition x.condition
    where
      by_condition : (condition : Condition) → entry_sends wire_model s e (record x { condition = condition }) ≡ flat_map (entry_sends in_code s e) (kept_session (record x { condition = condition }))
      by_condition (Attached conn) =
          ap (λ n. sends wire_text (Attached conn) n (due s e x.viewer)) (sym (last_is wire_text x.sent)) ∙ sym (append_none (sends wire_text (Attached conn) (replay wire_text x.sent).last (due s e x.viewer)))
      by_condition (Detached since) = refl
      by_condition Ended = refl

  pub each_sends : (xs : List (Session Sent)) → flat_map (entry_sends wire_model s e) xs ≡ flat_map (entry_sends in_code s e) (flat_map kept_session xs)
  each_sends [] = refl
  each_sends (x ∷ xs) =
      ap (λ ys. ys ++ flat_map (entry_sends wire_model s e) xs) (one_sends x)
      ∙ (ap (λ ys. flat_map (entry_sends in_code s e) (kept_session x) ++ ys) (each_sends xs) ∙ sym (flat_map_join (entry_sends in_code s e) (kept_session x) (flat_map kept_session xs)))

  one_spends : (x : Session Sent) → entry_spends wire_model s e x ≡ list_any (entry_spends in_code s e) (kept_session x)
  one_spends x = by_condition x.condition
    where
      past : is_past (length x.sent.told) (length (due s e x.viewer)) ≡ (is_past (replay wire_text x.sent).last (length (due s e x.viewer)) || false)
      past = ap (λ n. is_past n (length (due s e x.viewer))) (sym (last_is wire_text x.sent)) ∙ sym (or_false (is_past (replay wire_text x.sent).last (length (due s e x.viewer))))

      by_condition : (condition : Condition) → entry_spends wire_model s e (record x { condition = condition }) ≡ list_any (entry_spends in_code s e) (kept_session (record x { condition = condition }))
      by_condition (Attached conn) = past
      by_condition (Detached since) = past
      by_condition Ended = refl

  pub each_spends : (xs : List (Session Sent)) → list_any (entry_spends wire_model s e) xs ≡ list_any (entry_spends in_code s e) (flat_map kept_session xs)
  each_spends [] = refl
  each_spends (x ∷ xs) =
      ap (λ b. b || list_any (entry_spends wire_model s e) xs) (one_spends x)
      ∙ (ap (λ b. list_any (entry_spends in_code s e) (kept_session x) || b) (each_spends xs) ∙ sym (any_join (entry_spends in_code s e) (kept_session x) (flat_map kept_session xs)))

-- the number of a connection's session is kept
abbrev number_of : Session Sent → ℕ
number_of x = x.number

abbrev kept_number_of : Session Replay → ℕ
kept_number_of x = x.number

number_kept : (conn : ℕ) (xs : List (Session Sent)) → option_map number_of (find (λ (x : Session Sent). is_on conn x.condition) xs) ≡ option_map kept_number_of (find (λ (x : Session Replay). is_on conn x.condition) (flat_map kept_session xs))
number_kept conn [] = refl
number_kept conn (x ∷ xs) = by_condition x.condition (number_kept conn xs)
  where
    by_condition : (condition : Condition) → option_map number_of (find (λ (x : Session Sent). is_on conn x.condition) xs) ≡ option_map kept_number_of (find (λ (x : Session Replay). is_on conn x.condition) (flat_map kept_session xs))
        → option_map number_of (find (λ (y : Session Sent). is_on conn y.condition) (record x { condition = condition } ∷ xs))
        ≡ option_map kept_number_of (find (λ (y : Session Replay). is_on conn y.condition) (kept_session (record x { condition = condition }) ++ flat_map kept_session xs))
    by_condition (Attached c) rest = by_test (c == conn)
      where
        by_test : (b : Bool) → option_map number_of (if b then Some (record x { condition = Attached c }) else find (λ (y : Session Sent). is_on conn y.condition) xs)
            ≡ option_map kept_number_of (if b then Some (counted (record x { condition = Attached c })) else find (λ (y : Session Replay). is_on conn y.condition) (flat_map kept_session xs))
        by_test true = refl
        by_test false = rest
    by_condition (Detached since) rest = rest
    by_condition Ended rest = rest

-- and so is how many there are
live_kept : (xs : List (Session Sent)) → length (filter (λ (x : Session Sent). is_live x.condition) xs) ≡ length (filter (λ (x : Session Replay). is_live x.condition) (flat_map kept_session xs))
live_kept [] = refl
live_kept (x ∷ xs) = by_condition x.condition (live_kept xs)
  where
    by_condition : (condition : Condition) → length (filter (λ (x : Session Sent). is_live x.condition) xs) ≡ length (filter (λ (x : Session Replay). is_live x.condition) (flat_map kept_session xs))
        → length (filter (λ (y : Session Sent). is_live y.condition) (record x { condition = condition } ∷ xs))
        ≡ length (filter (λ (y : Session Replay). is_live y.condition) (kept_session (record x { condition = condition }) ++ flat_map kept_session xs))
    by_condition (Attached c) rest = ap suc rest
    by_condition (Detached since) rest = ap suc rest
    by_condition Ended rest = rest

-- so a frame moves both alike
identified_kept : (s : State Sent) (i : Identify) → identified s i ≡ identified (kept s) i
unfolding identified
identified_kept s i = ap (λ n. authorized_of n i (bot_of i.token s.bots)) (live_kept s.sessions)

-- the session of an id is kept
named_kept : (worker : ℕ) (id : List ℕ) (xs : List (Session Sent)) → option_map counted (find (λ (x : Session Sent). is_live x.condition && bytes_eq (session_id worker x.number) id) xs)
    ≡ find (λ (x : Session Replay). is_live x.condition && bytes_eq (session_id worker x.number) id) (flat_map kept_session xs)
named_kept worker id [] = refl
named_kept worker id (x ∷ xs) = by_condition x.condition (named_kept worker id xs)
  where
    by_test : (y : Session Sent) (b : Bool) (rest : Option (Session Sent)) (kept_rest : Option (Session Replay)) → option_map counted rest ≡ kept_rest
        → option_map counted (if b then Some y else rest) ≡ (if b then Some (counted y) else kept_rest)
    by_test y true rest kept_rest same = refl
    by_test y false rest kept_rest same = same

    by_condition : (condition : Condition)
        → option_map counted (find (λ (x : Session Sent). is_live x.condition && bytes_eq (session_id worker x.number) id) xs)
        ≡ find (λ (x : Session Replay). is_live x.condition && bytes_eq (session_id worker x.number) id) (flat_map kept_session xs)
        → option_map counted (find (λ (x : Session Sent). is_live x.condition && bytes_eq (session_id worker x.number) id) (record x { condition = condition } ∷ xs))
        ≡ find (λ (x : Session Replay). is_live x.condition && bytes_eq (session_id worker x.number) id) (kept_session (record x { condition = condition }) ++ flat_map kept_session xs)
    by_condition (Attached c) same = by_test (record x { condition = Attached c }) (bytes_eq (session_id worker x.number) id) _ _ same
    by_condition (Detached since) same = by_test (record x { condition = Detached since }) (bytes_eq (session_id worker x.number) id) _ _ same
    by_condition Ended same = same

resume_by_kept : (r : Resume) (o : Option (Session Sent)) → resume_by (replay wire_text) r o ≡ resume_by as_kept r (option_map counted o)
resume_by_kept r None = refl
resume_by_kept r (Some x) = refl

resume_kept : (s : State Sent) (r : Resume) → resume_answer (replay wire_text) s r ≡ resume_answer as_kept (kept s) r
resume_kept s r = resume_by_kept r (session_named r.session s) ∙ ap (λ o. resume_by as_kept r o) (named_kept s.worker r.session s.sessions)

pub move_kept : (s : State Sent) (now conn : ℕ) (text : List ℕ) → move_of (replay wire_text) s now conn text ≡ move_of as_kept (kept s) now conn text
move_kept s now conn text = by_connection (has_connection conn s) (is_rated conn now s)
  where
    by_frame : (f : Frame) → move_before_session (replay wire_text) s f ≡ move_before_session as_kept (kept s) f
    by_frame (frame.Heartbeat seq) = refl
    by_frame (frame.Identify i) = ap (λ r. identify_move i r) (identified_kept s i)
    by_frame (frame.Resume r) = ap resume_move (resume_kept s r)
    by_frame (frame.Presence status) = refl
    by_frame (frame.Voice ask) = refl
    by_frame (frame.Ask ask) = refl

    by_read : (session : Option ℕ) (r : Result Frame FrameFault) → read_move (replay wire_text) s session r ≡ read_move as_kept (kept s) session r
    by_read session (Err fault) = refl
    by_read (Some number) (Ok f) = refl
    by_read None (Ok f) = by_frame f

    by_connection : (b rated : Bool) → (if b then (if rated then ClosesWith 4008 else read_move (replay wire_text) s (number_on conn s) (frame_of text)) else Nothing)
        ≡ (if b then (if rated then ClosesWith 4008 else read_move as_kept (kept s) (number_on conn (kept s)) (frame_of text)) else Nothing)
    by_connection true false = by_read (number_on conn s) (frame_of text) ∙ ap (λ o. read_move as_kept (kept s) o (frame_of text)) (number_kept conn s.sessions)
    by_connection true true = refl
    by_connection false rated = refl

-- a connection that is gone
released_kept : (conn now : ℕ) (x : Session Sent) → kept_session (released conn (Detached now) x) ≡ map (released conn (Detached now)) (kept_session x)
released_kept conn now x = by_condition x.condition
  where
    by_test : (c : ℕ) (b : Bool) → kept_session (if b then record x { condition = Detached now } else record x { condition = Attached c })
        ≡ (if b then record (counted x) { condition = Detached now } else record (counted x) { condition = Attached c }) ∷ []
    by_test c true = refl
    by_test c false = refl

    by_condition : (condition : Condition) → kept_session (released conn (Detached now) (record x { condition = condition })) ≡ map (released conn (Detached now)) (kept_session (record x { condition = condition }))
    by_condition (Attached c) = by_test c (c == conn)
    by_condition (Detached since) = refl
    by_condition Ended = refl

each_released : (conn now : ℕ) (xs : List (Session Sent)) → flat_map kept_session (map (released conn (Detached now)) xs) ≡ map (released conn (Detached now)) (flat_map kept_session xs)
each_released conn now [] = refl
each_released conn now (x ∷ xs) =
    ap (λ ys. ys ++ flat_map kept_session (map (released conn (Detached now)) xs)) (released_kept conn now x)
    ∙ (ap (λ ys. map (released conn (Detached now)) (kept_session x) ++ ys) (each_released conn now xs) ∙ sym (map_join (released conn (Detached now)) (kept_session x) (flat_map kept_session xs)))

-- a session that resumes
joined_kept : (conn number : ℕ) (x : Session Sent) → kept_session (joined conn number x) ≡ map (joined conn number) (kept_session x)
joined_kept conn number x = by_condition x.condition
  where
    by_test : (condition : Condition) (b : Bool) → is_live condition ≡ true → kept_session (if b then record x { condition = Attached conn } else record x { condition = condition })
        ≡ (if b then record (counted x) { condition = Attached conn } else record (counted x) { condition = condition }) ∷ []
    by_test condition true live = refl
    by_test (Attached c) false live = refl
    by_test (Detached since) false live = refl
    by_test Ended false live = absurd (cc live)

    by_condition : (condition : Condition) → kept_session (joined conn number (record x { condition = condition })) ≡ map (joined conn number) (kept_session (record x { condition = condition }))
    by_condition (Attached c) = by_test (Attached c) (x.number == number) refl
    by_condition (Detached since) = by_test (Detached since) (x.number == number) refl
    by_condition Ended = refl

each_joined : (conn number : ℕ) (xs : List (Session Sent)) → flat_map kept_session (map (joined conn number) xs) ≡ map (joined conn number) (flat_map kept_session xs)
each_joined conn number [] = refl
each_joined conn number (x ∷ xs) =
    ap (λ ys. ys ++ flat_map kept_session (map (joined conn number) xs)) (joined_kept conn number x)
    ∙ (ap (λ ys. map (joined conn number) (kept_session x) ++ ys) (each_joined conn number xs) ∙ sym (map_join (joined conn number) (kept_session x) (flat_map kept_session xs)))

resumed_kept : (conn now number : ℕ) (older : Option ℕ) (s : State Sent) → kept (resumed conn now number older s) ≡ resumed conn now number older (kept s)
resumed_kept conn now number None s = ap (λ xs. record (kept s) { sessions = xs }) (each_joined conn number s.sessions)
resumed_kept conn now number (Some older) s = ap (λ xs. record (gone older (Detached now) (kept s)) { sessions = xs })
    (each_joined conn number (map (released older (Detached now)) s.sessions) ∙ ap (map (joined conn number)) (each_released older now s.sessions))

-- what is kept of the dispatches that a session begins with
abbrev pub begins_kept : Worker → Bot → Viewer → ℕ → Replay
begins_kept w bot v n = replay wire_text (begins_with wire_model w bot v n)

pub moved_kept : (w : Worker) (conn now : ℕ) (move : Move) → kept (moved conn now (begins_with wire_model w) move w.core) ≡ moved conn now (begins_kept w) move (kept w.core)
moved_kept w conn now Nothing = refl
moved_kept w conn now Answers = refl
moved_kept w conn now (ClosesWith code) = ap (λ xs. record (gone conn (Detached now) (kept w.core)) { sessions = xs }) (each_released conn now w.core.sessions)
moved_kept w conn now (Begins bot v) = ap (λ xs. record (begun conn bot v (begins_kept w bot v) (kept w.core)) { sessions = xs })
    (flat_map_join kept_session w.core.sessions (record { number = w.core.made + 1; token = bot.token; name = bot.name; viewer = v; condition = Attached conn; sent = begins_with wire_model w bot v (w.core.made + 1) } ∷ []))
moved_kept w conn now Denies = refl
moved_kept w conn now (Resumes number older seq held) = resumed_kept conn now number older w.core
moved_kept w conn now (Wants number want) = refl

pub framed_kept : (w : Worker) (conn now : ℕ) (move : Move) → kept (framed conn now (begins_with wire_model w) move w.core) ≡ framed conn now (begins_kept w) move (kept w.core)
framed_kept w conn now move = ap (frame_counted conn now) (moved_kept w conn now move)

pub opened_kept : (s : State Sent) (conn now : ℕ) → kept (opened conn now s) ≡ opened conn now (kept s)
opened_kept s conn now = by_connection (has_connection conn s) (nat_lt (length s.connections) 64)
  where
    by_connection : (b c : Bool) → kept (if b then s else (if c then record s { connections = s.connections ++ record { number = conn; last_heartbeat_ms = now; times = [] } ∷ [] } else s))
        ≡ (if b then kept s else (if c then record (kept s) { connections = s.connections ++ record { number = conn; last_heartbeat_ms = now; times = [] } ∷ [] } else kept s))
    by_connection true c = refl
    by_connection false true = refl
    by_connection false false = refl

-- what ends, or is lost

each_through : {A B : Type 0} (h : A → List B) (f : A → List A) (f' : B → List B) → ((x : A) → flat_map h (f x) ≡ flat_map f' (h x))
    → (xs : List A) → flat_map h (flat_map f xs) ≡ flat_map f' (flat_map h xs)
each_through h f f' one [] = refl
each_through h f f' one (x ∷ xs) =
    flat_map_join h (f x) (flat_map f xs)
    ∙ (ap (λ ys. ys ++ flat_map h (flat_map f xs)) (one x)
    ∙ (ap (λ ys. flat_map f' (h x) ++ ys) (each_through h f f' one xs) ∙ sym (flat_map_join f' (h x) (flat_map h xs))))

gone_kept : (s : State Sent) (conn now : ℕ) → kept (gone conn (Detached now) s) ≡ gone conn (Detached now) (kept s)
gone_kept s conn now = ap (λ xs. record (gone conn (Detached now) (kept s)) { sessions = xs }) (each_released conn now s.sessions)

pub lost_kept : (s : State Sent) (conn now : ℕ) → kept (lost conn now s) ≡ lost conn now (kept s)
lost_kept s conn now = by_connection (has_connection conn s)
  where
    by_connection : (b : Bool) → kept (if b then gone conn (Detached now) s else s) ≡ (if b then gone conn (Detached now) (kept s) else kept s)
    by_connection true = gone_kept s conn now
    by_connection false = refl

filter_same : {A : Type 0} (p q : A → Bool) → ((x : A) → p x ≡ q x) → (xs : List A) → filter p xs ≡ filter q xs
filter_same p q same [] = refl
filter_same p q same (x ∷ xs) = ap (λ b. if b then x ∷ filter p xs else filter p xs) (same x) ∙ by_test (q x) (filter_same p q same xs)
  where
    by_test : (b : Bool) → filter p xs ≡ filter q xs → (if b then x ∷ filter p xs else filter p xs) ≡ (if b then x ∷ filter q xs else filter q xs)
    by_test true rest = ap (λ ys. x ∷ ys) rest
    by_test false rest = rest

-- a connection has a session, or has none
has_kept : (conn : ℕ) (s : State Sent) → has_session conn s ≡ has_session conn (kept s)
has_kept conn s = same_there (session_on conn s) (session_on conn (kept s)) (number_kept conn s.sessions)
  where
    same_there : (o : Option (Session Sent)) (o' : Option (Session Replay)) → option_map number_of o ≡ option_map kept_number_of o' → is_some o ≡ is_some o'
    same_there None None e = refl
    same_there (Some x) (Some y) e = refl
    same_there None (Some y) e = absurd (cc e)
    same_there (Some x) None e = absurd (cc e)

-- of a session that has ended nothing is kept
abbrev forgotten : Session Replay → List (Session Replay)
forgotten x = []

module _ (last : Cursors) where
  left_one : (conn : ℕ) (x : Session Sent) → flat_map kept_session (left_of (ended_at last) conn x) ≡ flat_map (left_of forgotten conn) (kept_session x)
  left_one conn x = by_condition x.condition
    where
      by_test : (c : ℕ) (b : Bool) → flat_map kept_session (if b then ended_at last (record x { condition = Attached c }) else record x { condition = Attached c } ∷ [])
          ≡ (if b then [] else record (counted x) { condition = Attached c } ∷ []) ++ []
      by_test c true = refl
      by_test c false = refl

      by_condition : (condition : Condition) → flat_map kept_session (left_of (ended_at last) conn (record x { condition = condition })) ≡ flat_map (left_of forgotten conn) (kept_session (record x { condition = condition }))
      by_condition (Attached c) = by_test c (c == conn)
      by_condition (Detached since) = refl
      by_condition Ended = refl

  kept_one : (now : ℕ) (x : Session Sent) → flat_map kept_session (kept_for (ended_at last) now x) ≡ flat_map (kept_for forgotten now) (kept_session x)
  kept_one now x = by_condition x.condition
    where
      by_test : (since : ℕ) (b : Bool) → flat_map kept_session (if b then ended_at last (record x { condition = Detached since }) else record x { condition = Detached since } ∷ [])
          ≡ (if b then [] else record (counted x) { condition = Detached since } ∷ []) ++ []
      by_test since true = refl
      by_test since false = refl

      by_condition : (condition : Condition) → flat_map kept_session (kept_for (ended_at last) now (record x { condition = condition })) ≡ flat_map (kept_for forgotten now) (kept_session (record x { condition = condition }))
      by_condition (Attached c) = refl
      by_condition (Detached since) = by_test since (nat_le (since + 180000) now)
      by_condition Ended = refl

  pub closed_kept : (s : State Sent) (conn code now : ℕ) → kept (client_closed (ended_at last) conn code now s) ≡ client_closed forgotten conn code now (kept s)
  closed_kept s conn code now = by_code (is_final code) (has_connection conn s)
    where
      by_code : (final there : Bool) → kept (if final then (if there then left (ended_at last) conn s else s) else lost conn now s)
          ≡ (if final then (if there then left forgotten conn (kept s) else kept s) else lost conn now (kept s))
      by_code false there = lost_kept s conn now
      by_code true false = refl
      by_code true true = ap (λ xs. record (left forgotten conn (kept s)) { sessions = xs }) (each_through kept_session (left_of (ended_at last) conn) (left_of forgotten conn) (left_one conn) s.sessions)

  all_gone_kept : (conns : List ℕ) (now : ℕ) (s : State Sent) → kept (all_gone conns now s) ≡ all_gone conns now (kept s)
  all_gone_kept [] now s = refl
  all_gone_kept (conn ∷ conns) now s = all_gone_kept conns now (gone conn (Detached now) s) ∙ ap (all_gone conns now) (gone_kept s conn now)

  expired_kept : (s : State Sent) (now : ℕ) → kept (expired (ended_at last) now s) ≡ expired forgotten now (kept s)
  expired_kept s now = ap (λ xs. record (kept s) { sessions = xs }) (each_through kept_session (kept_for (ended_at last) now) (kept_for forgotten now) (kept_one now) s.sessions)

  pub ticked_kept : (s : State Sent) (now : ℕ) → kept (ticked (ended_at last) now s) ≡ ticked forgotten now (kept s)
  ticked_kept s now =
      expired_kept (all_gone (silent_of now s.connections) now s) now
      ∙ ap (expired forgotten now) (all_gone_kept (silent_of now s.connections) now s)

  ended_one : (x : Session Sent) → flat_map kept_session (ended_if_live (ended_at last) x) ≡ flat_map (ended_if_live forgotten) (kept_session x)
  ended_one x = by_condition x.condition
    where
      by_condition : (condition : Condition) → flat_map kept_session (ended_if_live (ended_at last) (record x { condition = condition })) ≡ flat_map (ended_if_live forgotten) (kept_session (record x { condition = condition }))
      by_condition (Attached c) = refl
      by_condition (Detached since) = refl
      by_condition Ended = refl

  pub all_ended_kept : (s : State Sent) → kept (all_ended (ended_at last) s) ≡ all_ended forgotten (kept s)
  all_ended_kept s =
      ap (λ xs. record (kept s) { connections = filter (λ (l : Connection). not (has_session l.number s)) s.connections; sessions = xs })
      (each_through kept_session (ended_if_live (ended_at last)) (ended_if_live forgotten) ended_one s.sessions)
      ∙ ap (λ ls. record (kept s) { connections = ls; sessions = flat_map (ended_if_live forgotten) (flat_map kept_session s.sessions) })
      (filter_same (λ (l : Connection). not (has_session l.number s)) (λ (l : Connection). not (has_session l.number (kept s))) (λ l. ap not (has_kept l.number s)) s.connections)

pub session_conns_kept : (s : State Sent) → session_conns s ≡ session_conns (kept s)
session_conns_kept s = ap (map connection_number)
    (filter_same (λ (l : Connection). has_session l.number s) (λ (l : Connection). has_session l.number (kept s)) (λ l. has_kept l.number s) s.connections)
