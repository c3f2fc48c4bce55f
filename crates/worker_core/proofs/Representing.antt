-- Each input leaves what a worker's value keeps that of each worker that it represents, with the same outputs.
use Rattle.std.proofs.Common.{◌≡◌, ℕ, ◌+◌, List, [], ◌∷◌, ◌++◌, Bool, true, false, Option, Some, None, if◌then◌else◌, length, map, refl, sym, ap, subst, ◌∙◌}
use Rattle.std.specs.Prelude.{◌==◌, ◌||◌, flat_map, max, option_map}
use Rattle.std.specs.List.{list_any}
use Rattle.std.specs.Option.{option_map_or}
use Rattle.collections.specs.ById.{find_id, put_id}
use Rattle.guild_model.specs.Record.{Record}
use Rattle.gateway_frames.specs.declared.frame.Ask.{Ask}
use Rattle.dispatch_types.specs.declared.viewer.Viewer.{Viewer}
use Rattle.dispatch_types.specs.declared.dispatch.Dispatch.{Dispatch}
use Rattle.dispatch_types.specs.declared.dispatch.Dispatch.TheVariants.{Ready}
use Rattle.dispatch_types.specs.Fold.{contains}
use Rattle.edit_apply.specs.Edits.{after, state}
use Rattle.edit_apply.specs.declared.Edit.{Edit}
use Rattle.session_core.specs.declared.bot.Bot.{Bot}
use Rattle.session_core.specs.declared.reply.Mark.TheVariants.{Start}
use Rattle.session_core.specs.State.{State, Session, Condition, Attached, Detached, Ended, is_live, opened, begun}
use Rattle.session_core.specs.Frames.{Want, Members, Presence, Voice, Move, Nothing, Answers, ClosesWith, Begins, Denies, Resumes, Wants, move_of, moved, framed as with_frame, is_spent, as_kept}
use Rattle.session_core.specs.Rate.{frame_counted}
use Rattle.session_core.specs.Resume.{session_id}
use Rattle.session_core.specs.Ends.{lost, client_closed, ticked, session_conns, all_ended}
use Rattle.replay_ring.specs.Replay.{Replay, fresh, pushed_all, replay_of}
use Rattle.world_law.specs.Keeping.{record_id, record_at, with_sessions, Cursors}
use Rattle.world_law.specs.Outputs.{Output, Closes, texts_from, sends}
use Rattle.world_law.specs.Looks.{after_entry, entry_sends, entered, looked, look_sends, looked_by, look_sends_by, rebased_by, rebase_sends_by}
use Rattle.world_law.specs.Greeting.{greeting_of, listed_guilds, first_dispatches, begins_with}
use Rattle.world_law.specs.Wants.{is_numbered, numbered, change_first, answered_by, presence_wishes, voice_wishes, answer_to, after_answer, asked, want_sends, after_want}
use Rattle.world_law.specs.Frames.{move_at, after_move, framed, frame_sends}
use Rattle.world_law.specs.Inputs.{Input, Look, Rebase, Open, Frame, Lost, Closed, Tick, open_sends, tick_sends, taken, outputs}
use Rattle.world_law.specs.Spent.{is_past, chunks_spend, entry_spends, look_spends, look_spends_by, want_spends, frame_spends, spends}
use Rattle.world_law.specs.Sent.{Sent, SentDispatch, dispatch_of, told, chunks_told}
use Rattle.world_law.specs.Model.{cursors, seen_with, seen_as, record_of, records_of, Worker, replay}
use Rattle.world_law.proofs.Lists.{map_join}
use Rattle.world_law.proofs.Folds.{dispatches_told, same_id}
use Rattle.world_law.proofs.Entered.{state_entered, next_record}
use Rattle.world_law.proofs.Found.{found_here}
use Rattle.world_law.proofs.Replays.{last_is, replay_told, replay_first}
use Rattle.world_law.proofs.Sends.{chunk_dispatches}
use Rattle.worker_core.specs.InCode.{wire_model, wire_text, replica_of, held_with, in_code, KeptMachine}
use Rattle.worker_core.specs.Represents.{counted, kept_session, kept, IsKept}
use Rattle.worker_core.proofs.Records.{put_guild, put_record}
use Rattle.worker_core.proofs.Kept.{each_told, each_sends, each_spends, move_kept, begins_kept, framed_kept, opened_kept, lost_kept, closed_kept, ticked_kept, all_ended_kept, session_conns_kept}

-- ---- looks

-- one entry, by the record before it
entered_here : (k : KeptMachine) (w : Worker) → IsKept k w → (g : ℕ) (e : Edit) → contains g w.logs.guilds ≡ true
    → let s = record_of w.logs.seen g in IsKept (entered in_code k g s e) (entered wire_model w g s e)
entered_here k w same g e there =
    let s : Record = record_of w.logs.seen g in
    record {
      url = same.url;
      now = same.now;
      chunks = same.chunks;
      guilds = same.guilds;
      records = put_guild (replica_of (after s e)) k.logs
          ∙ (ap (put_id record_id (after s e)) same.records
          ∙ put_record w.logs.seen (seen_with w.logs.seen g e) g (λ h differ. ap (λ b. if b then w.logs.seen h ++ e ∷ [] else w.logs.seen h) differ) w.logs.guilds same.guilds there
          (after s e) (sym (state_entered w.logs.seen g e)));
      core = ap (λ (c : State Replay). with_sessions (map (after_entry in_code k.logs g s e) c.sessions) c) same.core
          ∙ ap (λ xs. with_sessions xs (kept w.core)) (sym (each_told w.logs.seen g e k.logs w.core.sessions));
    }

entered_kept : (k : KeptMachine) (w : Worker) → IsKept k w → (g : ℕ) (s : Record) (e : Edit) → s ≡ record_of w.logs.seen g → contains g w.logs.guilds ≡ true
    → IsKept (entered in_code k g s e) (entered wire_model w g s e)
entered_kept k w same g s e is there =
    subst (λ (r : Record). IsKept (entered in_code k g r e) (entered wire_model w g r e)) (sym is) (entered_here k w same g e there)

looked_kept : (es : List Edit) (k : KeptMachine) (w : Worker) → IsKept k w → (g : ℕ) (s : Record) → s ≡ record_of w.logs.seen g → contains g w.logs.guilds ≡ true
    → IsKept (looked in_code k g s es) (looked wire_model w g s es)
    × ((look_sends in_code k g s es ≡ look_sends wire_model w g s es) × (look_spends in_code k g s es ≡ look_spends wire_model w g s es))
looked_kept [] k w same g s is there = (same, (refl, refl))
looked_kept (e ∷ es) k w same g s is there =
    let next : KeptMachine = entered in_code k g s e in
    let w' : Worker = entered wire_model w g s e in
    let rest = looked_kept es next w' (entered_kept k w same g s e is there) g (after s e) (next_record w.logs.seen g e s is) there in (
      rest.0,
      (
        ap (λ out. out ++ look_sends in_code next g (after s e) es) (ap (λ (c : State Replay). flat_map (entry_sends in_code s e) c.sessions) same.core ∙ sym (each_sends s e w.core.sessions))
            ∙ ap (λ out. flat_map (entry_sends wire_model s e) w.core.sessions ++ out) rest.1.0,
        ap (λ b. b || look_spends in_code next g (after s e) es) (ap (λ (c : State Replay). list_any (entry_spends in_code s e) c.sessions) same.core ∙ sym (each_spends s e w.core.sessions))
            ∙ ap (λ b. list_any (entry_spends wire_model s e) w.core.sessions || b) rest.1.1,
      ),
    )

-- ---- what is kept of a session that was sent chunks

-- chunks leave the same as dispatches under one mark
replay_chunks : (old : Sent) (made : ℕ) (now : Cursors) (ds : List Dispatch)
    → replay wire_text (record old { told = old.told ++ chunks_told made now ds }) ≡ held_with ds (replay wire_text old)
replay_chunks old made now ds =
    let ts : List SentDispatch = old.told in
    ap (λ xs. replay_of old.ring_items old.ring_bytes (texts_from wire_text 0 xs))
    (map_join dispatch_of ts (chunks_told made now ds) ∙ (ap (λ xs. map dispatch_of ts ++ xs) (chunk_dispatches wire_text made now ds ∙ sym (dispatches_told Start now now ds))
    ∙ sym (map_join dispatch_of ts (told Start now now ds))))
    ∙ replay_told wire_text old Start now now ds

-- ---- the session of a number

pub numbered_kept : (number : ℕ) (xs : List (Session Sent)) → numbered number (flat_map kept_session xs) ≡ option_map counted (numbered number xs)
numbered_kept number [] = refl
numbered_kept number (x ∷ xs) = by_condition x.condition (numbered_kept number xs)
  where
    by_test : (y : Session Sent) (b : Bool) (rest : Option (Session Sent)) (kept_rest : Option (Session Replay)) → kept_rest ≡ option_map counted rest
        → (if b then Some (counted y) else kept_rest) ≡ option_map counted (if b then Some y else rest)
    by_test y true rest kept_rest same = refl
    by_test y false rest kept_rest same = same

    by_condition : (condition : Condition) → numbered number (flat_map kept_session xs) ≡ option_map counted (numbered number xs)
        → numbered number (kept_session (record x { condition = condition }) ++ flat_map kept_session xs) ≡ option_map counted (numbered number (record x { condition = condition } ∷ xs))
    by_condition (Attached c) same = by_test (record x { condition = Attached c }) (x.number == number) (numbered number xs) (numbered number (flat_map kept_session xs)) same
    by_condition (Detached since) same = by_test (record x { condition = Detached since }) (x.number == number) (numbered number xs) (numbered number (flat_map kept_session xs)) same
    by_condition Ended same = same

module _ (number : ℕ) (f : Session Sent → Session Sent) (h : Session Replay → Session Replay) (same : (x : Session Sent) → is_live x.condition ≡ true → kept_session (f x) ≡ h (counted x) ∷ []) where
  changed_kept : (xs : List (Session Sent)) → flat_map kept_session (change_first (is_numbered number) f xs) ≡ change_first (is_numbered number) h (flat_map kept_session xs)
  changed_kept [] = refl
  changed_kept (x ∷ xs) = by_condition x.condition (changed_kept xs)
    where
      by_test : (y : Session Sent) → is_live y.condition ≡ true → kept_session y ≡ counted y ∷ [] → (b : Bool)
          → flat_map kept_session (change_first (is_numbered number) f xs) ≡ change_first (is_numbered number) h (flat_map kept_session xs)
          → flat_map kept_session (if b then f y ∷ xs else y ∷ change_first (is_numbered number) f xs)
          ≡ (if b then h (counted y) ∷ flat_map kept_session xs else counted y ∷ change_first (is_numbered number) h (flat_map kept_session xs))
      by_test y live one true rest = ap (λ zs. zs ++ flat_map kept_session xs) (same y live)
      by_test y live one false rest = ap (λ zs. zs ++ flat_map kept_session (change_first (is_numbered number) f xs)) one ∙ ap (λ zs. counted y ∷ zs) rest

      by_condition : (condition : Condition) → flat_map kept_session (change_first (is_numbered number) f xs) ≡ change_first (is_numbered number) h (flat_map kept_session xs)
          → flat_map kept_session (change_first (is_numbered number) f (record x { condition = condition } ∷ xs))
          ≡ change_first (is_numbered number) h (kept_session (record x { condition = condition }) ++ flat_map kept_session xs)
      by_condition (Attached c) rest = by_test (record x { condition = Attached c }) refl refl (x.number == number) rest
      by_condition (Detached since) rest = by_test (record x { condition = Detached since }) refl refl (x.number == number) rest
      by_condition Ended rest = rest

-- ---- requests

module _ (k : KeptMachine) (w : Worker) (same : IsKept k w) where
  pub found_kept : (g : ℕ) → record_at in_code k.logs g ≡ record_at wire_model w.logs g
  found_kept g = ap (find_id record_id g) same.records

  answer_kept : (ask : Ask) (x : Session Sent) → answer_to in_code k ask (counted x) ≡ answer_to wire_model w ask x
  answer_kept ask x = ap (answered_by x.viewer ask) (found_kept ask.guild)

  sends_kept : (want : Want) (x : Session Sent) → want_sends in_code k want (counted x) ≡ want_sends wire_model w want x
  sends_kept (Members ask) x =
      ap (λ n. sends wire_text x.condition n (answer_to in_code k ask (counted x))) (last_is wire_text x.sent) ∙ ap (sends wire_text x.condition (length x.sent.told)) (answer_kept ask x)
  sends_kept (Presence status) x = ap (presence_wishes x.viewer status) same.records
  sends_kept (Voice ask) x = ap (voice_wishes x.viewer ask) (found_kept ask.guild)

  spends_kept : (want : Want) (x : Session Sent) → want_spends in_code k want (counted x) ≡ want_spends wire_model w want x
  spends_kept (Members ask) x =
      ap (λ n. chunks_spend n (replay wire_text x.sent).last (length (answer_to in_code k ask (counted x)))) same.chunks
      ∙ (ap (λ n. chunks_spend w.chunks n (length (answer_to in_code k ask (counted x)))) (last_is wire_text x.sent)
      ∙ ap (λ ds. chunks_spend w.chunks (length x.sent.told) (length ds)) (answer_kept ask x))
  spends_kept (Presence status) x = refl
  spends_kept (Voice ask) x = refl

  session_kept : (number : ℕ) → numbered number k.core.sessions ≡ option_map counted (numbered number w.core.sessions)
  session_kept number = ap (λ (c : State Replay). numbered number c.sessions) same.core ∙ numbered_kept number w.core.sessions

  by_session : {B : Type 0} (f : Session Replay → B) (h : Session Sent → B) (d : B) → ((x : Session Sent) → f (counted x) ≡ h x) → (number : ℕ)
      → option_map_or f (numbered number k.core.sessions) d ≡ option_map_or h (numbered number w.core.sessions) d
  by_session f h d each number = ap (λ o. option_map_or f o d) (session_kept number) ∙ of (numbered number w.core.sessions)
    where
      of : (o : Option (Session Sent)) → option_map_or f (option_map counted o) d ≡ option_map_or h o d
      of None = refl
      of (Some x) = each x

  told_kept : (ask : Ask) (x : Session Sent) → is_live x.condition ≡ true → kept_session (after_answer wire_model w ask x) ≡ after_answer in_code k ask (counted x) ∷ []
  told_kept ask x live = by_condition x.condition live
    where
      more : replay wire_text (after_answer wire_model w ask x).sent ≡ held_with (answer_to in_code k ask (counted x)) (replay wire_text x.sent)
      more = replay_chunks x.sent w.chunks (cursors w.logs.seen) (answer_to wire_model w ask x)
          ∙ ap (λ ds. held_with ds (replay wire_text x.sent)) (sym (answer_kept ask x))

      by_condition : (condition : Condition) → is_live condition ≡ true
          → kept_session (after_answer wire_model w ask (record x { condition = condition })) ≡ after_answer in_code k ask (counted (record x { condition = condition })) ∷ []
      by_condition (Attached c) live = ap (λ r. record { number = x.number; token = x.token; name = x.name; viewer = x.viewer; condition = Attached c; sent = r } ∷ []) more
      by_condition (Detached since) live = ap (λ r. record { number = x.number; token = x.token; name = x.name; viewer = x.viewer; condition = Detached since; sent = r } ∷ []) more
      by_condition Ended live = absurd (cc live)

  asked_kept : (ask : Ask) (number : ℕ) → IsKept (asked in_code k ask number) (asked wire_model w ask number)
  asked_kept ask number = record {
    url = same.url;
    now = same.now;
    chunks = ap (λ n. n + option_map_or (λ x. length (answer_to in_code k ask x)) (numbered number k.core.sessions) 0) same.chunks
        ∙ ap (λ n. w.chunks + n)
        (by_session (λ x. length (answer_to in_code k ask x)) (λ x. length (answer_to wire_model w ask x)) 0 (λ x. ap length (answer_kept ask x)) number);
    guilds = same.guilds;
    records = same.records;
    core = ap (λ (c : State Replay). with_sessions (change_first (is_numbered number) (after_answer in_code k ask) c.sessions) c) same.core
        ∙ ap (λ xs. with_sessions xs (kept w.core)) (sym (changed_kept number (after_answer wire_model w ask) (after_answer in_code k ask) (told_kept ask) w.core.sessions));
  }

  want_kept : (number : ℕ) (want : Want) → IsKept (after_want in_code number want k) (after_want wire_model number want w)
  want_kept number (Members ask) = asked_kept ask number
  want_kept number (Presence status) = same
  want_kept number (Voice ask) = same

after_move_kept : (move : Move) (k : KeptMachine) (w : Worker) → IsKept k w → IsKept (after_move in_code move k) (after_move wire_model move w)
after_move_kept Nothing k w same = same
after_move_kept Answers k w same = same
after_move_kept (ClosesWith code) k w same = same
after_move_kept (Begins bot v) k w same = same
after_move_kept Denies k w same = same
after_move_kept (Resumes number older seq held) k w same = same
after_move_kept (Wants number want) k w same = want_kept k w same number want

-- ---- each input

-- what is kept is that of the worker, with the same outputs and counts
abbrev pub SameAfter : KeptMachine → Worker → KeptMachine → Worker → (out out' : List Output) → (spent spent' : Bool) → Type 0
SameAfter k w new after out out' spent spent' = IsKept new after × ((out ≡ out') × (spent ≡ spent'))

module _ (k : KeptMachine) (w : Worker) (same : IsKept k w) where
  looks_kept : (g : ℕ) (es : List Edit) → SameAfter k w (taken in_code k (Look g es)) (taken wire_model w (Look g es)) (outputs in_code k (Look g es)) (outputs wire_model w (Look g es)) (spends in_code k (Look g es)) (spends wire_model w (Look g es))
  looks_kept g es =
      subst (λ (o : Option Record). SameAfter k w (looked_by in_code o k g es) (taken wire_model w (Look g es)) (look_sends_by in_code o k g es) (outputs wire_model w (Look g es)) (look_spends_by in_code o k g es) (spends wire_model w (Look g es)))
      (sym (found_kept k w same g)) (by_found (record_at wire_model w.logs g) refl)
    where
      by_found : (o : Option Record) → record_at wire_model w.logs g ≡ o
          → SameAfter k w (looked_by in_code o k g es) (looked_by wire_model o w g es) (look_sends_by in_code o k g es) (look_sends_by wire_model o w g es) (look_spends_by in_code o k g es) (look_spends_by wire_model o w g es)
      by_found None e = (same, (refl, refl))
      by_found (Some s) e = let here = found_here wire_text w.logs g s e in looked_kept es k w same g s here.1 here.0

  rebase_kept : (g : ℕ) (log : List Edit) → SameAfter k w (taken in_code k (Rebase g log)) (taken wire_model w (Rebase g log)) (outputs in_code k (Rebase g log)) (outputs wire_model w (Rebase g log)) false false
  rebase_kept g log =
      subst (λ (o : Option Record). SameAfter k w (rebased_by in_code o k g log) (taken wire_model w (Rebase g log)) (rebase_sends_by o k.core) (outputs wire_model w (Rebase g log)) false false)
      (sym (found_kept k w same g)) (by_found (record_at wire_model w.logs g) refl)
    where
      whole : (s : Record) → contains g w.logs.guilds ≡ true → IsKept (rebased_by in_code (Some s) k g log) (rebased_by wire_model (Some s) w g log)
      whole s there = record {
        url = same.url;
        now = same.now;
        chunks = same.chunks;
        guilds = same.guilds;
        records = put_guild (replica_of (state g log)) k.logs
            ∙ (ap (put_id record_id (state g log)) same.records
            ∙ put_record w.logs.seen (seen_as w.logs.seen g log) g (λ h differ. ap (λ b. if b then log else w.logs.seen h) differ) w.logs.guilds same.guilds there
            (state g log) (ap (λ b. state g (if b then log else w.logs.seen g)) (sym (same_id g))));
        core = ap (λ c. all_ended (λ x. []) c) same.core ∙ sym (all_ended_kept (cursors w.logs.seen) w.core);
      }

      by_found : (o : Option Record) → record_at wire_model w.logs g ≡ o
          → SameAfter k w (rebased_by in_code o k g log) (rebased_by wire_model o w g log) (rebase_sends_by o k.core) (rebase_sends_by o w.core) false false
      by_found None e = (same, (refl, refl))
      by_found (Some s) e = (
        whole s (found_here wire_text w.logs g s e).0,
        (ap (λ (c : State Replay). map (λ conn. Closes conn 4000) (session_conns c)) same.core ∙ ap (map (λ conn. Closes conn 4000)) (sym (session_conns_kept w.core)), refl),
      )

  -- the first dispatches of a session
  first_kept : (v : Viewer) (name : List ℕ) (n : ℕ) → first_dispatches in_code k v name n ≡ first_dispatches wire_model w v name n
  first_kept v name n =
      let whole : List Record → ℕ → List ℕ → List Dispatch =
      λ records worker url. Ready (record { user = record { id = v.user; name = name; bot = true }; guilds = listed_guilds v records; session = session_id worker n; url = url; shard = v.shard }) ∷ flat_map (greeting_of v) records in
      ap (λ records. whole records k.core.worker k.url) same.records
      ∙ (ap (λ (c : State Replay). whole (records_of w.logs) c.worker k.url) same.core ∙ ap (whole (records_of w.logs) w.core.worker) same.url)

  pub move_same : (conn : ℕ) (received : List ℕ) → move_at in_code k conn received ≡ move_at wire_model w conn received
  move_same conn received =
      ap (λ (c : State Replay). move_of as_kept c k.now conn received) same.core
      ∙ (ap (λ n. move_of as_kept (kept w.core) n conn received) same.now ∙ sym (move_kept w.core w.now conn received))

  moved_by : (conn : ℕ) (move : Move) → with_frame conn k.now (begins_with in_code k) move k.core ≡ kept (with_frame conn w.now (begins_with wire_model w) move w.core)
  moved_by conn move =
      ap (λ c. with_frame conn k.now (begins_with in_code k) move c) same.core
      ∙ (ap (λ n. with_frame conn n (begins_with in_code k) move (kept w.core)) same.now
      ∙ (ap (frame_counted conn w.now) (by_move move) ∙ sym (framed_kept w conn w.now move)))
    where
      same_start : (bot : Bot) (v : Viewer) (n : ℕ) → begins_with in_code k bot v n ≡ begins_kept w bot v n
      same_start bot v n =
          ap (λ ds. pushed_all (fresh bot.ring_items bot.ring_bytes) (texts_from wire_text 0 ds)) (first_kept v bot.name n)
          ∙ sym (replay_first wire_text bot (cursors w.logs.seen) (first_dispatches wire_model w v bot.name n))

      by_move : (move : Move) → moved conn w.now (begins_with in_code k) move (kept w.core) ≡ moved conn w.now (begins_kept w) move (kept w.core)
      by_move Nothing = refl
      by_move Answers = refl
      by_move (ClosesWith code) = refl
      by_move (Begins bot v) = ap (λ start. record (begun conn bot v (λ n. fresh bot.ring_items bot.ring_bytes) (kept w.core)) {
        sessions = (kept w.core).sessions ++ record { number = w.core.made + 1; token = bot.token; name = bot.name; viewer = v; condition = Attached conn; sent = start } ∷ [];
      }) (same_start bot v (w.core.made + 1))
      by_move Denies = refl
      by_move (Resumes number older seq held) = refl
      by_move (Wants number want) = refl

  sent_by : (conn : ℕ) (move : Move) → frame_sends in_code k conn move ≡ frame_sends wire_model w conn move
  sent_by conn Nothing = refl
  sent_by conn Answers = refl
  sent_by conn (ClosesWith code) = refl
  sent_by conn (Begins bot v) =
      ap (λ (c : State Replay). sends wire_text (Attached conn) 0 (first_dispatches in_code k v bot.name (c.made + 1))) same.core
      ∙ ap (λ ds. sends wire_text (Attached conn) 0 ds) (first_kept v bot.name (w.core.made + 1))
  sent_by conn Denies = refl
  sent_by conn (Resumes number older seq held) = refl
  sent_by conn (Wants number want) = by_session k w same (want_sends in_code k want) (want_sends wire_model w want) [] (sends_kept k w same want) number

  spent_by : (move : Move) → frame_spends in_code k move ≡ frame_spends wire_model w move
  spent_by Nothing = refl
  spent_by Answers = refl
  spent_by (ClosesWith code) = refl
  spent_by (Begins bot v) =
      ap (λ (c : State Replay). is_spent (Begins bot v) c || is_past 0 (length (first_dispatches in_code k v bot.name (c.made + 1)))) same.core
      ∙ ap (λ ds. is_spent (Begins bot v) (kept w.core) || is_past 0 (length ds)) (first_kept v bot.name (w.core.made + 1))
  spent_by Denies = refl
  spent_by (Resumes number older seq held) = refl
  spent_by (Wants number want) = by_session k w same (want_spends in_code k want) (want_spends wire_model w want) false (spends_kept k w same want) number

  frames_kept : (conn : ℕ) (move : Move) → IsKept (framed in_code k conn move) (framed wire_model w conn move)
  frames_kept conn move =
      after_move_kept move (record k { core = with_frame conn k.now (begins_with in_code k) move k.core }) (record w { core = with_frame conn w.now (begins_with wire_model w) move w.core }) (record {
        url = same.url;
        now = same.now;
        chunks = same.chunks;
        guilds = same.guilds;
        records = same.records;
        core = moved_by conn move;
      })

  frame_kept : (conn : ℕ) (received : List ℕ) → let i = Frame conn received in
      SameAfter k w (taken in_code k i) (taken wire_model w i) (outputs in_code k i) (outputs wire_model w i) (spends in_code k i) (spends wire_model w i)
  frame_kept conn received =
      let to : Move = move_at wire_model w conn received in
      subst (λ (move : Move). SameAfter k w (framed in_code k conn move) (framed wire_model w conn to) (frame_sends in_code k conn move) (frame_sends wire_model w conn to) (frame_spends in_code k move) (frame_spends wire_model w to))
      (sym (move_same conn received)) (frames_kept conn to, (sent_by conn to, spent_by to))

  pub input_kept : (i : Input) → SameAfter k w (taken in_code k i) (taken wire_model w i) (outputs in_code k i) (outputs wire_model w i) (spends in_code k i) (spends wire_model w i)
  input_kept (Look g es) = looks_kept g es
  input_kept (Rebase g log) = rebase_kept g log
  input_kept (Open conn) = (
    record {
      url = same.url;
      now = same.now;
      chunks = same.chunks;
      guilds = same.guilds;
      records = same.records;
      core = ap (λ c. opened conn k.now c) same.core ∙ (ap (λ n. opened conn n (kept w.core)) same.now ∙ sym (opened_kept w.core conn w.now));
    },
    (ap (λ (c : State Replay). open_sends conn c) same.core, refl),
  )
  input_kept (Frame conn received) = frame_kept conn received
  input_kept (Lost conn) = (
    record {
      url = same.url;
      now = same.now;
      chunks = same.chunks;
      guilds = same.guilds;
      records = same.records;
      core = ap (λ c. lost conn k.now c) same.core ∙ (ap (λ n. lost conn n (kept w.core)) same.now ∙ sym (lost_kept w.core conn w.now));
    },
    (refl, refl),
  )
  input_kept (Closed conn code) = (
    record {
      url = same.url;
      now = same.now;
      chunks = same.chunks;
      guilds = same.guilds;
      records = same.records;
      core = ap (λ c. client_closed (λ x. []) conn code k.now c) same.core
          ∙ (ap (λ n. client_closed (λ x. []) conn code n (kept w.core)) same.now ∙ sym (closed_kept (cursors w.logs.seen) w.core conn code w.now));
    },
    (refl, refl),
  )
  input_kept (Tick now) = (
    record {
      url = same.url;
      now = ap (λ n. max n now) same.now;
      chunks = same.chunks;
      guilds = same.guilds;
      records = same.records;
      core = ap (λ c. ticked (λ x. []) (max k.now now) c) same.core
          ∙ (ap (λ n. ticked (λ x. []) (max n now) (kept w.core)) same.now ∙ sym (ticked_kept (cursors w.logs.seen) w.core (max w.now now)));
    },
    (ap (λ n. tick_sends (max n now) k.core) same.now ∙ ap (λ (c : State Replay). tick_sends (max w.now now) c) same.core, refl),
  )
