-- What the worker makes of a text of the client on its connection.
use Rattle.std.proofs.Common.{◌≡◌, ℕ, List, [], ◌∷◌, ◌++◌, Bool, true, false, Option, Some, None, Result, Ok, Err, if◌then◌else◌, map, take, refl, sym, ap, subst, ◌∙◌, append_assoc, ◌⊎◌, inl, inr}
use Rattle.dispatch_types.specs.declared.dispatch.Dispatch.{Dispatch}
use Rattle.dispatch_types.specs.Fold.{Held, fold, purge}
use Rattle.edit_apply.specs.declared.Edit.{Edit}
use Rattle.edit_apply.specs.Edits.{state}
use Rattle.edit_events.proofs.Others.{projection_stays}
use Rattle.gateway_frames.specs.declared.frame.Frame.{Frame as AFrame}
use Rattle.gateway_frames.specs.declared.frame.Frame.TheVariants as frame
use Rattle.gateway_frames.specs.declared.fault.FrameFault.{FrameFault}
use Rattle.gateway_frames.specs.declared.out.Out.TheVariants.{Ack}
use Rattle.gateway_frames.specs.Read.{frame_of}
use Rattle.session_core.specs.State.{Session, Detached, released, has_connection, number_on}
use Rattle.session_core.specs.Rate.{is_rated}
use Rattle.session_core.specs.Frames.{Move, Nothing, Answers, ClosesWith, fault_code, read_move, move_in_session, move_before_session}
use Rattle.world_law.specs.Folds.{last_cursors}
use Rattle.world_law.specs.Frames.{framed, frame_sends, move_at}
use Rattle.world_law.specs.Model.{Worker, in_model, replay, cursors}
use Rattle.world_law.specs.Outputs.{Output, Says, Closes}
use Rattle.world_law.specs.Sent.{Sent, dispatches}
use Rattle.world_law.proofs.Folds.{same_id}
use Rattle.world_law.proofs.Logs.{state_id, state_is_well}
use Rattle.world_law.proofs.Workers.{Follows, SessionMeets}
use Rattle.world_law.proofs.Connections.{released_off}
use Rattle.two_ends.specs.Flights.{Text, Close, said, flights, ReadsBack}
use Rattle.two_ends.proofs.Among.{IsAmong, all_among}
use Rattle.two_ends.proofs.Minds.{Item, Said, Shut, all_flown, Mind, all_minded, AtEnds, Good}
use Rattle.two_ends.proofs.Steps.{minded_join}
use Rattle.two_ends.proofs.Stages.{AreStill, still_join, later_join, still_later, all_still_minded, IsBeat, Prompts, Asks, Has, Stage, off_ends}

-- ---- a session that is held whole leaves no thread over

pub session_still : (w : Worker) (x : Session Sent) → Follows w → IsAmong x w.core.sessions → (g : ℕ)
    → purge x.viewer.intents g (fold x.viewer.intents g (dispatches x.sent)) ≡ fold x.viewer.intents g (dispatches x.sent)
session_still w x follows among g =
    let meets : SessionMeets w.logs.seen x = all_among (SessionMeets w.logs.seen) x w.core.sessions follows.sessions among in
    let held : Held = fold x.viewer.intents g (dispatches x.sent) in
    let es : List Edit = take (last_cursors (cursors w.logs.seen) x g) (w.logs.seen g) in
    let Still : ℕ → Type 0 = λ n. purge x.viewer.intents n held ≡ held in
    subst Still (state_id g es) (projection_stays (state g es) x.viewer held (state_is_well g es) (meets.meets.current g))

abbrev pub IsPlain : Move → Type 0
IsPlain move = (move ≡ Nothing) ⊎ ((move ≡ Answers) ⊎ ((code : ℕ) × (move ≡ ClosesWith code)))

module _ (text : ℕ → Dispatch → List ℕ) (conn : ℕ) where
  -- a text that changes no session but by closing the connection
  abbrev pub made_by : Worker → Move → Worker
  made_by w move = framed (in_model text) w conn move

  abbrev pub gives_by : Worker → Move → List Output
  gives_by w move = frame_sends (in_model text) w conn move

  pub said_flies : flights conn (Says conn Ack ∷ []) ≡ all_flown text (Said Ack ∷ [])
  said_flies = ap (λ b. (if b then Text (said Ack) ∷ [] else []) ++ []) (same_id conn)

  pub closed_flies : (code : ℕ) → flights conn (Closes conn code ∷ []) ≡ all_flown text (Shut code ∷ [])
  closed_flies code = ap (λ b. (if b then Close code ∷ [] else []) ++ []) (same_id conn)

module _ (text : ℕ → Dispatch → List ℕ) (intents conn : ℕ) where
  -- what a text leaves, of the worker, of what is on its way, and of how far both are
  pub record Leaves (worker : ℕ) (m : Mind) (is : List Item) (later : List (List ℕ)) (new : Worker) (out : List Output) : Type 0 where
    pub items : List Item
    pub are : flights conn out ≡ all_flown text items
    pub good : Good intents worker new.core.sessions (all_minded m is) items
    pub stage : Stage intents worker m conn new.core.sessions (is ++ items) later

  -- items that are still, while no session is on the connection or those on it stay
  module _ (worker : ℕ) (m : Mind) (is : List Item) (later : List (List ℕ)) (xs : List (Session Sent)) (items : List Item) (still : AreStill items) where
    still_prompts : Prompts is later → Prompts (is ++ items) later
    still_prompts waits = record {
      prompt = waits.prompt;
      which = waits.which;
      front = waits.front;
      back = waits.back ++ items;
      split = ap (λ is. is ++ items) waits.split ∙ append_assoc waits.front (waits.prompt ∷ waits.back) items;
      before = waits.before;
      later = still_join waits.back items waits.later still;
      beats = waits.beats;
    }

    still_asks : Asks intents m is later → Asks intents m (is ++ items) later
    still_asks asks = record {
      still = still_join is items asks.still still;
      frame = asks.frame;
      first = asks.first;
      front = asks.front;
      back = asks.back;
      split = asks.split;
      before = asks.before;
      later = asks.later;
    }

    still_has : Has intents worker m conn xs is later → Has intents worker m conn xs (is ++ items) later
    still_has has = record {
      ends = subst (λ (n : Mind). AtEnds intents worker conn n xs) (sym (minded_join m is items ∙ all_still_minded (all_minded m is) items still)) has.ends;
      late = later_join is items has.late (still_later items still);
      beats = has.beats;
    }

    pub still_stage : Stage intents worker m conn xs is later → Stage intents worker m conn xs (is ++ items) later
    still_stage stage = elim stage [
      | inl off ↦ inl (
        off.0,
        elim off.1 [
          | inl waits ↦ inl (still_prompts waits)
          | inr asks ↦ inr (still_asks asks)
        ],
      )
      | inr has ↦ inr (still_has has)
    ]

  -- sessions that have lost the connection
  shut_stage : (worker : ℕ) (m : Mind) (is : List Item) (later : List (List ℕ)) (xs : List (Session Sent)) (now : ℕ) → Stage intents worker m conn xs is later
      → Stage intents worker m conn (map (released conn (Detached now)) xs) is later
  shut_stage worker m is later xs now stage = elim stage [
    | inl off ↦ inl (released_off conn now xs, off.1)
    | inr has ↦ inr (record { ends = off_ends intents worker conn (all_minded m is) (map (released conn (Detached now)) xs) (released_off conn now xs); late = has.late; beats = has.beats })
  ]

  pub plain_leaves : (w : Worker) (worker : ℕ) (m : Mind) (is : List Item) (later : List (List ℕ)) (move : Move) → IsPlain move → Stage intents worker m conn w.core.sessions is later
      → Leaves worker m is later (made_by text conn w move) (gives_by text conn w move)
  plain_leaves w worker m is later move plain stage = elim plain [
    | inl none ↦ subst (λ (move : Move). Leaves worker m is later (made_by text conn w move) (gives_by text conn w move)) (sym none) (record { items = []; are = refl; good = tt; stage = still_stage worker m is later w.core.sessions [] tt stage })
    | inr (inl answers) ↦ subst (λ (move : Move). Leaves worker m is later (made_by text conn w move) (gives_by text conn w move)) (sym answers) (record { items = Said Ack ∷ []; are = said_flies text conn; good = (tt, tt); stage = still_stage worker m is later w.core.sessions (Said Ack ∷ []) (tt, tt) stage })
    | inr (inr closes) ↦ subst (λ (move : Move). Leaves worker m is later (made_by text conn w move) (gives_by text conn w move)) (sym closes.1) (record {
      items = Shut closes.0 ∷ [];
      are = closed_flies text conn closes.0;
      good = (tt, tt);
      stage = still_stage worker m is later (map (released conn (Detached w.now)) w.core.sessions) (Shut closes.0 ∷ []) (tt, tt) (shut_stage worker m is later w.core.sessions w.now stage);
    })
  ]

module _ (text : ℕ → Dispatch → List ℕ) (back : ReadsBack text) (conn : ℕ) where
  -- a heartbeat is answered, or closes the connection
  beat_read : (o : Option ℕ) (s : Option ℕ) (w : Worker) (r : Result AFrame FrameFault) → ((read : AFrame) → r ≡ Ok read → read ≡ frame.Heartbeat o) → IsPlain (read_move (replay text) w.core s r)
  beat_read o s w (Err fault) reads = inr (inr (fault_code fault, refl))
  beat_read o None w (Ok read) reads = inr (inl (ap (move_before_session (replay text) w.core) (reads read refl)))
  beat_read o (Some number) w (Ok read) reads = inr (inl (ap (move_in_session number) (reads read refl)))

  pub beat_plain : (w : Worker) (t : List ℕ) → IsBeat t → IsPlain (move_at (in_model text) w conn t)
  beat_plain w t beat = by_tests (has_connection conn w.core) (is_rated conn w.now w.core)
    where
      reads : (read : AFrame) → frame_of t ≡ Ok read → read ≡ frame.Heartbeat beat.0
      reads read is = back.frames (frame.Heartbeat beat.0) read tt (ap frame_of (sym beat.1) ∙ is)

      by_tests : (there rated : Bool) → IsPlain (if there then (if rated then ClosesWith 4008 else read_move (replay text) w.core (number_on conn w.core) (frame_of t)) else Nothing)
      by_tests false rated = inl refl
      by_tests true true = inr (inr (4008, refl))
      by_tests true false = beat_read beat.0 (number_on conn w.core) w (frame_of t) reads
