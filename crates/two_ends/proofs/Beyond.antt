-- No frame of the client is answered with the close of a number beyond the last.
use Rattle.std.proofs.Common.{◌≡◌, ℕ, ◌+◌, ◌-◌, ◌<◌, ◌≤◌, ◌^◌, List, [], ◌∷◌, ◌++◌, Bool, true, false, not, Option, Some, None, Result, Ok, Err, if◌then◌else◌, length, map, refl, sym, ap, subst, ◌∙◌, arith}
use Rattle.std.specs.Prelude.{All, nat_lt}
use Rattle.std.specs.Str.{bytes_eq}
use Rattle.std.proofs.lemmas.Bool.Decides.{nat_tests}
use Rattle.std.proofs.lemmas.List.{length-map}
use Rattle.std.proofs.lemmas.List.Elements.{All-nil, All-cons, All-append}
use Rattle.dispatch_types.specs.declared.dispatch.Dispatch.{Dispatch}
use Rattle.gateway_frames.specs.declared.frame.Frame.{Frame as AFrame}
use Rattle.gateway_frames.specs.declared.frame.Frame.TheVariants as frame
use Rattle.gateway_frames.specs.declared.frame.Identify.{Identify as AnIdentify}
use Rattle.gateway_frames.specs.declared.frame.Resume.{Resume as AResume}
use Rattle.gateway_frames.specs.declared.fault.FrameFault.{FrameFault}
use Rattle.gateway_frames.specs.declared.fault.FrameFault.TheVariants.{TooLong, NotJson, BadShape, UnknownOp, Memory}
use Rattle.gateway_frames.specs.declared.out.Out.TheVariants.{Ack, Invalid, Resumed as SaysResumed}
use Rattle.gateway_frames.specs.Read.{frame_of}
use Rattle.gateway_frames.specs.Written.{MaySend}
use Rattle.replay_ring.specs.Replay.{texts_after}
use Rattle.session_core.specs.declared.bot.Bot.{Bot}
use Rattle.session_core.specs.State.{State, Session, Attached, attached, is_live, has_connection, number_on, live}
use Rattle.session_core.specs.Identify.{identified, authorized_of, bot_of, are_intents, is_no_shard, goes_beyond}
use Rattle.session_core.specs.Rate.{is_rated}
use Rattle.session_core.specs.Frames.{Move, Nothing, Answers, ClosesWith, Begins, Denies, Resumes, Wants, identify_move, resume_move, fault_code, read_move, move_in_session, move_before_session}
use Rattle.session_core.specs.Resume.{NotResumable, InvalidSeq, Resumed, resume_by, session_id, session_named}
use Rattle.world_law.specs.Frames.{frame_sends, move_at, older_sends}
use Rattle.world_law.specs.Greeting.{first_dispatches}
use Rattle.world_law.specs.Inputs.{Frame, outputs}
use Rattle.world_law.specs.Model.{Worker, in_model, replay}
use Rattle.world_law.specs.Outputs.{Output, Says, Sends, Closes, sends}
use Rattle.world_law.specs.Sent.{Sent, dispatch_of, dispatches}
use Rattle.world_law.proofs.Alone.{IsSound}
use Rattle.world_law.proofs.Replays.{last_is}
use Rattle.two_ends.specs.Flights.{ReadsBack}
use Rattle.two_ends.specs.TwoEnds.{IsNotBeyond}
use Rattle.two_ends.proofs.Among.{IsAmong}
use Rattle.two_ends.proofs.Stages.{MaySay, IsOwn}
use Rattle.two_ends.proofs.Judging.{named_session}
use Rattle.two_ends.proofs.Places.{same_number, same_session, among_below}

-- a move of a frame that a client sends
abbrev MayMove : Move → Type 0
MayMove Nothing = Unit {0}
MayMove Answers = Unit {0}
MayMove (ClosesWith code) = ¬ (code ≡ 4007)
MayMove (Begins bot viewer) = Unit {0}
MayMove Denies = Unit {0}
MayMove (Resumes number older seq held) = Unit {0}
MayMove (Wants number want) = ⊥

one : (o : Output) → IsNotBeyond o → All IsNotBeyond (o ∷ [])
one o is = All-cons IsNotBeyond o [] is (All-nil IsNotBeyond)

module _ (text : ℕ → Dispatch → List ℕ) (w : Worker) (conn : ℕ) where
  sends_so : (n : ℕ) (ds : List Dispatch) → All IsNotBeyond (sends text (Attached conn) n ds)
  sends_so n [] = All-nil IsNotBeyond
  sends_so n (d ∷ ds) = All-cons IsNotBeyond (Sends conn (text (n + 1) d)) (sends text (Attached conn) (n + 1) ds) tt (sends_so (n + 1) ds)

  texts_so : (texts : List (List ℕ)) → All IsNotBeyond (map (λ text. Sends conn text) texts)
  texts_so [] = All-nil IsNotBeyond
  texts_so (t ∷ texts) = All-cons IsNotBeyond (Sends conn t) (map (λ text. Sends conn text) texts) tt (texts_so texts)

  older_so : (older : Option ℕ) → All IsNotBeyond (older_sends older)
  older_so None = All-nil IsNotBeyond
  older_so (Some c) = one (Closes c 4000) (λ e. omega (arith, e))

  move_so : (move : Move) → MayMove move → All IsNotBeyond (frame_sends (in_model text) w conn move)
  move_so Nothing may = All-nil IsNotBeyond
  move_so Answers may = one (Says conn Ack) tt
  move_so (ClosesWith code) may = one (Closes conn code) may
  move_so (Begins bot viewer) may = sends_so 0 (first_dispatches (in_model text) w viewer bot.name (w.core.made + 1))
  move_so Denies may = one (Says conn (Invalid false)) tt
  move_so (Resumes number older seq held) may =
      All-append IsNotBeyond (older_sends older) (map (λ text. Sends conn text) (texts_after held seq) ++ Says conn (SaysResumed held.last) ∷ []) (older_so older)
      (All-append IsNotBeyond (map (λ text. Sends conn text) (texts_after held seq)) (Says conn (SaysResumed held.last) ∷ []) (texts_so (texts_after held seq)) (one (Says conn (SaysResumed held.last)) tt))
  move_so (Wants number want) may = absurd may

-- ---- which moves a client's frames make

fault_so : (fault : FrameFault) → ¬ (fault_code fault ≡ 4007)
fault_so TooLong e = omega (arith, e)
fault_so NotJson e = omega (arith, e)
fault_so BadShape e = omega (arith, e)
fault_so UnknownOp e = omega (arith, e)
fault_so Memory e = omega (arith, e)

abbrev MayStart : Result Bot ℕ → Type 0
MayStart (Ok bot) = Unit {0}
MayStart (Err code) = ¬ (code ≡ 4007)

starts_so : (s : State Sent) (i : AnIdentify) → MayStart (identified s i)
unfolding identified
starts_so s i = by_bot (bot_of i.token s.bots)
  where
    by_tests : (bot : Bot) (a b c d : Bool) → MayStart (if not a then Err 4013 else (if b then Err 4010 else (if c then Err 4014 else (if d then Ok bot else Err 4000))))
    by_tests bot false b c d = λ e. omega (arith, e)
    by_tests bot true true c d = λ e. omega (arith, e)
    by_tests bot true false true d = λ e. omega (arith, e)
    by_tests bot true false false true = tt
    by_tests bot true false false false = λ e. omega (arith, e)

    by_bot : (o : Option Bot) → MayStart (authorized_of (length (live s)) i o)
    by_bot None = λ e. omega (arith, e)
    by_bot (Some bot) = by_tests bot (are_intents i.intents) (is_no_shard i.shard) (goes_beyond i.intents bot.privileged) (nat_lt (length (live s)) 64)

module _ (text : ℕ → Dispatch → List ℕ) (w : Worker) (sound : IsSound w) (few : w.core.made < 2 ^ 64) where
  resume_so : (r : AResume) → MaySay w.core.worker w.core.sessions (frame.Resume r) → (o : Option (Session Sent)) → session_named r.session w.core ≡ o → MayMove (resume_move (resume_by (replay text) r o))
  resume_so r may None named = tt
  resume_so r may (Some y) named = by_tests (bytes_eq y.token r.token) (nat_lt (replay text y.sent).last r.seq) refl (nat_lt r.seq ((replay text y.sent).last - length (replay text y.sent).held))
    where
      x : Session Sent
      x = may.0

      found : IsAmong y w.core.sessions × ((is_live y.condition ≡ true) × (session_id w.core.worker y.number ≡ r.session))
      found = named_session w r.session y named

      one_session : x ≡ y
      one_session =
          let old = among_below x 0 w.core.made w.core.sessions sound.numbers may.1.0 in
          let this = among_below y 0 w.core.made w.core.sessions sound.numbers found.0 in
          same_session x y 0 w.core.made w.core.sessions sound.numbers may.1.0 found.0
          (same_number w.core.worker x.number y.number (omega (arith, old.1, few)) (omega (arith, this.1, few)) (sym (found.1.1 ∙ may.1.1.0)))

      not_past : nat_lt (replay text y.sent).last r.seq ≡ false
      not_past =
          let last : (replay text y.sent).last ≡ length y.sent.told = last_is text y.sent in
          let within : r.seq ≤ length (dispatches y.sent) = subst (λ (x : Session Sent). r.seq ≤ length (dispatches x.sent)) one_session may.1.1.1 in
          grind (arith, nat_tests, last, within, length-map y.sent.told dispatch_of)

      by_tests : (own past : Bool) → nat_lt (replay text y.sent).last r.seq ≡ past → (low : Bool)
          → MayMove (resume_move (if not own then NotResumable else (if past then InvalidSeq else (if low then NotResumable else Resumed y.number (attached y.condition) r.seq (replay text y.sent)))))
      by_tests false past is low = tt
      by_tests true true is low = absurd (cc (is, not_past))
      by_tests true false is true = tt
      by_tests true false is false = tt

  first_so : (f : AFrame) → MaySay w.core.worker w.core.sessions f → MayMove (move_before_session (replay text) w.core f)
  first_so (frame.Heartbeat number) may = tt
  first_so (frame.Identify i) may = by_start (identified w.core i) (starts_so w.core i)
    where
      by_start : (r : Result Bot ℕ) → MayStart r → MayMove (identify_move i r)
      by_start (Ok bot) may = tt
      by_start (Err code) may = may
  first_so (frame.Presence status) may = absurd may
  first_so (frame.Voice ask) may = absurd may
  first_so (frame.Resume r) may = resume_so r may (session_named r.session w.core) refl
  first_so (frame.Ask ask) may = absurd may

  later_so : (number : ℕ) (f : AFrame) → MaySay w.core.worker w.core.sessions f → MayMove (move_in_session number f)
  later_so number (frame.Heartbeat n) may = tt
  later_so number (frame.Identify i) may = λ e. omega (arith, e)
  later_so number (frame.Presence status) may = absurd may
  later_so number (frame.Voice ask) may = absurd may
  later_so number (frame.Resume r) may = λ e. omega (arith, e)
  later_so number (frame.Ask ask) may = absurd may

  read_so : (session : Option ℕ) (r : Result AFrame FrameFault) (f : AFrame) → MaySay w.core.worker w.core.sessions f → ((read : AFrame) → r ≡ Ok read → read ≡ f) → MayMove (read_move (replay text) w.core session r)
  read_so session (Err fault) f may reads = fault_so fault
  read_so None (Ok read) f may reads = subst (λ (f : AFrame). MayMove (move_before_session (replay text) w.core f)) (sym (reads read refl)) (first_so f may)
  read_so (Some number) (Ok read) f may reads = subst (λ (f : AFrame). MayMove (move_in_session number f)) (sym (reads read refl)) (later_so number f may)

  may_send : (f : AFrame) → MaySay w.core.worker w.core.sessions f → MaySend f
  may_send (frame.Heartbeat number) may = tt
  may_send (frame.Identify i) may = tt
  may_send (frame.Presence status) may = tt
  may_send (frame.Voice ask) may = tt
  may_send (frame.Resume r) may = tt
  may_send (frame.Ask ask) may = absurd may

  pub not_beyond : ReadsBack text → (conn : ℕ) (t : List ℕ) → IsOwn w.core.worker w.core.sessions t → All IsNotBeyond (outputs (in_model text) w (Frame conn t))
  not_beyond back conn t own = move_so text w conn (move_at (in_model text) w conn t) (by_tests (has_connection conn w.core) (is_rated conn w.now w.core))
    where
      reads : (read : AFrame) → frame_of t ≡ Ok read → read ≡ own.0
      reads read is = back.frames own.0 read (may_send own.0 own.1.1) (ap frame_of (sym own.1.0) ∙ is)

      by_tests : (there rated : Bool) → MayMove (if there then (if rated then ClosesWith 4008 else read_move (replay text) w.core (number_on conn w.core) (frame_of t)) else Nothing)
      by_tests false rated = tt
      by_tests true true = λ e. omega (arith, e)
      by_tests true false = read_so (number_on conn w.core) (frame_of t) own.0 own.1.1 reads
