-- A session that resumes: which it is, and what goes out again.
use Rattle.std.proofs.Common.{◌≡◌, ℕ, ◌+◌, ◌-◌, ◌≤◌, zero, suc, List, [], ◌∷◌, Bool, true, false, not, Option, Some, None, Result, Ok, Err, if◌then◌else◌, length, map, drop, refl, sym, ap, ◌∙◌, arith}
use Rattle.std.specs.Prelude.{◌==◌, ◌&&◌, nat_lt}
use Rattle.std.specs.List.{find}
use Rattle.std.specs.Str.{bytes_eq}
use Rattle.std.proofs.lemmas.Option.{same_Some}
use Rattle.std.proofs.lemmas.Bool.Decides.{nat_tests}
use Rattle.std.proofs.lemmas.Bool.{eqb-true}
use Rattle.dispatch_types.specs.declared.dispatch.Dispatch.{Dispatch}
use Rattle.gateway_frames.specs.declared.frame.Frame.{Frame}
use Rattle.gateway_frames.specs.declared.frame.Frame.TheVariants as frame
use Rattle.gateway_frames.specs.declared.frame.Identify.{Identify}
use Rattle.gateway_frames.specs.declared.frame.Resume.{Resume}
use Rattle.gateway_frames.specs.declared.fault.FrameFault.{FrameFault}
use Rattle.gateway_frames.specs.Read.{frame_of}
use Rattle.replay_ring.specs.Replay.{Replay, texts_after}
use Rattle.replay_ring.proofs.Suffixes.{texts_after-replay_of}
use Rattle.session_core.specs.declared.bot.Bot.{Bot}
use Rattle.session_core.specs.State.{State, Session, Attached, is_live, attached, has_connection, number_on}
use Rattle.session_core.specs.Identify.{identified}
use Rattle.session_core.specs.Rate.{is_rated}
use Rattle.session_core.specs.Frames.{Move, Nothing, Answers, ClosesWith, Begins, Denies, Resumes, Wants, identify_move, resume_move, move_in_session, move_before_session, read_move}
use Rattle.session_core.specs.Resume.{NotResumable, InvalidSeq, Resumed, session_id, session_named, resume_by}
use Rattle.world_law.specs.Outputs.{Sends, sends, texts_from}
use Rattle.world_law.specs.Sent.{Sent, dispatches}
use Rattle.world_law.specs.Model.{Worker, in_model, replay}
use Rattle.world_law.specs.Frames.{move_at}
use Rattle.world_law.specs.Wants.{numbered}

-- ---- which session resumes

-- the first that meets one test is also the first that meets a stricter one that it meets
module _ {A : Type 0} (p q : A → Bool) (stricter : (y : A) → q y ≡ true → p y ≡ true) (x : A) (is : q x ≡ true) where
  pub first_of_fewer : (ys : List A) → find p ys ≡ Some x → find q ys ≡ Some x
  first_of_fewer [] found = absurd (cc found)
  first_of_fewer (y ∷ ys) found = by_tests (q y) (p y) refl refl found (first_of_fewer ys)
    where
      by_tests : (b c : Bool) → q y ≡ b → p y ≡ c → (if c then Some y else find p ys) ≡ Some x → (find p ys ≡ Some x → find q ys ≡ Some x)
          → (if b then Some y else find q ys) ≡ Some x
      by_tests true true strict here found rest = found
      by_tests true false strict here found rest = absurd (cc (stricter y strict, here))
      by_tests false true strict here found rest = let same : y ≡ x = same_Some y x found in absurd (cc (ap q same, strict, is))
      by_tests false false strict here found rest = rest found

-- what is found meets the test
pub found_meets : {A : Type 0} (p : A → Bool) (ys : List A) (x : A) → find p ys ≡ Some x → p x ≡ true
found_meets p [] x found = absurd (cc found)
found_meets p (y ∷ ys) x found = by_test (p y) refl found (found_meets p ys x)
  where
    by_test : (b : Bool) → p y ≡ b → (if b then Some y else find p ys) ≡ Some x → (find p ys ≡ Some x → p x ≡ true) → p x ≡ true
    by_test true here found rest = let same : y ≡ x = same_Some y x found in ap p (sym same) ∙ here
    by_test false other found rest = rest found

both_true : (b c : Bool) → (b && c) ≡ true → (b ≡ true) × (c ≡ true)
both_true true true e = (refl, refl)
both_true true false e = absurd (cc e)
both_true false c e = absurd (cc e)

-- the session of an id is the one of its number
pub named_number : (s : State Sent) (id : List ℕ) (x : Session Sent) → session_named id s ≡ Some x → numbered x.number s.sessions ≡ Some x
named_number s id x found =
    let meets = both_true (is_live x.condition) (bytes_eq (session_id s.worker x.number) id)
    (found_meets (λ (y : Session Sent). is_live y.condition && bytes_eq (session_id s.worker y.number) id) s.sessions x found) in
    let own : (x.number == x.number) ≡ true = grind (arith, nat_tests) in
    let itself : (is_live x.condition && (x.number == x.number)) ≡ true = grind (arith, meets.0, own) in
    first_of_fewer
    (λ (y : Session Sent). is_live y.condition && bytes_eq (session_id s.worker y.number) id)
    (λ (y : Session Sent). is_live y.condition && (y.number == x.number))
    (λ y strict.
    let both = both_true (is_live y.condition) (y.number == x.number) strict in
    let same : y.number ≡ x.number = eqb-true y.number x.number both.1 in
    let named : bytes_eq (session_id s.worker y.number) id ≡ true = ap (λ n. bytes_eq (session_id s.worker n) id) same ∙ meets.1 in
    grind (arith, both.0, named))
    x itself s.sessions found

-- a resume that is granted is of a session that has this kept
pub record IsHeld (text : ℕ → Dispatch → List ℕ) (s : State Sent) (number seq : ℕ) (held : Replay) : Type 0 where
  pub session : Session Sent
  pub found : numbered number s.sessions ≡ Some session
  pub same : replay text session.sent ≡ held
  pub low : held.last - length held.held ≤ seq
  pub high : seq ≤ held.last

module _ (text : ℕ → Dispatch → List ℕ) where
  abbrev pub Fits : State Sent → Move → Type 0
  Fits s Nothing = Unit {0}
  Fits s Answers = Unit {0}
  Fits s (ClosesWith code) = Unit {0}
  Fits s (Begins bot v) = Unit {0}
  Fits s Denies = Unit {0}
  Fits s (Resumes number older seq held) = IsHeld text s number seq held
  Fits s (Wants number want) = Unit {0}

  fits_named : (s : State Sent) (r : Resume) (o : Option (Session Sent)) → session_named r.session s ≡ o → Fits s (resume_move (resume_by (replay text) r o))
  fits_named s r None none = tt
  fits_named s r (Some x) found = by_tests (bytes_eq x.token r.token) (nat_lt (replay text x.sent).last r.seq) (nat_lt r.seq ((replay text x.sent).last - length (replay text x.sent).held)) refl refl
    where
      by_tests : (own past below : Bool) → nat_lt (replay text x.sent).last r.seq ≡ past → nat_lt r.seq ((replay text x.sent).last - length (replay text x.sent).held) ≡ below
          → Fits s (resume_move (if not own then NotResumable else (if past then InvalidSeq else (if below then NotResumable else Resumed x.number (attached x.condition) r.seq (replay text x.sent)))))
      by_tests false past below p b = tt
      by_tests true true below p b = tt
      by_tests true false true p b = tt
      by_tests true false false p b = record {
        session = x;
        found = named_number s r.session x found;
        same = refl;
        low = at_least r.seq ((replay text x.sent).last - length (replay text x.sent).held) b;
        high = at_least (replay text x.sent).last r.seq p;
      }
        where
          at_least : (n m : ℕ) → nat_lt n m ≡ false → m ≤ n
          at_least n m e = grind (arith, nat_tests, e)

  pub fits_text : (w : Worker) (conn : ℕ) (received : List ℕ) → Fits w.core (move_at (in_model text) w conn received)
  fits_text w conn received = by_connection (has_connection conn w.core) (is_rated conn w.now w.core)
    where
      by_start : (i : Identify) (r : Result Bot ℕ) → Fits w.core (identify_move i r)
      by_start i (Ok bot) = tt
      by_start i (Err code) = tt

      by_first : (f : Frame) → Fits w.core (move_before_session (replay text) w.core f)
      by_first (frame.Heartbeat seq) = tt
      by_first (frame.Identify i) = by_start i (identified w.core i)
      by_first (frame.Resume r) = fits_named w.core r (session_named r.session w.core) refl
      by_first (frame.Presence status) = tt
      by_first (frame.Voice ask) = tt
      by_first (frame.Ask ask) = tt

      by_later : (number : ℕ) (f : Frame) → Fits w.core (move_in_session number f)
      by_later number (frame.Heartbeat seq) = tt
      by_later number (frame.Identify i) = tt
      by_later number (frame.Resume r) = tt
      by_later number (frame.Presence status) = tt
      by_later number (frame.Voice ask) = tt
      by_later number (frame.Ask ask) = tt

      by_read : (session : Option ℕ) (r : Result Frame FrameFault) → Fits w.core (read_move (replay text) w.core session r)
      by_read session (Err fault) = tt
      by_read (Some number) (Ok f) = by_later number f
      by_read None (Ok f) = by_first f

      by_connection : (b rated : Bool) → Fits w.core (if b then (if rated then ClosesWith 4008 else read_move (replay text) w.core (number_on conn w.core) (frame_of received)) else Nothing)
      by_connection false rated = tt
      by_connection true true = tt
      by_connection true false = by_read (number_on conn w.core) (frame_of received)

  -- ---- what goes out again

  -- texts after a number
  drop_texts : (n q : ℕ) (ds : List Dispatch) → texts_from text (n + q) (drop q ds) ≡ drop q (texts_from text n ds)
  drop_texts n zero [] = refl
  drop_texts n zero (d ∷ ds) = ap (λ m. texts_from text m (d ∷ ds)) (omega arith)
  drop_texts n (suc q) [] = refl
  drop_texts n (suc q) (d ∷ ds) = ap (λ m. texts_from text m (drop q ds)) (omega arith) ∙ drop_texts (n + 1) q ds

  -- the texts that are held are those of the dispatches after the number
  resent_texts : (sent : Sent) (seq : ℕ) → (replay text sent).last - length (replay text sent).held ≤ seq → seq ≤ (replay text sent).last
      → texts_from text seq (drop seq (dispatches sent)) ≡ texts_after (replay text sent) seq
  resent_texts sent seq low high =
      ap (λ n. texts_from text n (drop seq (dispatches sent))) (none_before seq)
      ∙ (drop_texts 0 seq (dispatches sent) ∙ sym (texts_after-replay_of sent.ring_items sent.ring_bytes (texts_from text 0 (dispatches sent)) seq low high))
    where
      none_before : (n : ℕ) → n ≡ 0 + n
      none_before n = omega arith

  sends_texts : (conn n : ℕ) (ds : List Dispatch) → map (λ t. Sends conn t) (texts_from text n ds) ≡ sends text (Attached conn) n ds
  sends_texts conn n [] = refl
  sends_texts conn n (d ∷ ds) = ap (λ out. Sends conn (text (n + 1) d) ∷ out) (sends_texts conn (n + 1) ds)

  pub resent : (conn : ℕ) (sent : Sent) (seq : ℕ) → (replay text sent).last - length (replay text sent).held ≤ seq → seq ≤ (replay text sent).last
      → map (λ t. Sends conn t) (texts_after (replay text sent) seq) ≡ sends text (Attached conn) seq (drop seq (dispatches sent))
  resent conn sent seq low high = ap (map (λ t. Sends conn t)) (sym (resent_texts sent seq low high)) ∙ sends_texts conn seq (drop seq (dispatches sent))
