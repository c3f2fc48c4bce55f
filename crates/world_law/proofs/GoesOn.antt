-- A session that resumes has its new connection, and all it was sent.
use Rattle.std.proofs.Common.{◌≡◌, ℕ, ◌-◌, ◌<◌, ◌≤◌, List, [], ◌∷◌, ◌++◌, Bool, true, false, not, Option, Some, None, if◌then◌else◌, length, map, drop, refl, sym, ap, subst, ◌∙◌, arith, inl, inr}
use Rattle.std.specs.Prelude.{◌==◌, ◌&&◌, nat_lt, is_some, option_map}
use Rattle.std.specs.List.{find}
use Rattle.std.specs.Str.{bytes_eq}
use Rattle.std.proofs.lemmas.Bool.{false_from_ne_true}
use Rattle.std.proofs.lemmas.Bool.Decides.{nat_tests}
use Rattle.std.proofs.lemmas.Option.{same_Some}
use Rattle.std.proofs.lemmas.Slice.Eq.{bytes_eq-Decides}
use Rattle.dispatch_types.specs.declared.dispatch.Dispatch.{Dispatch}
use Rattle.gateway_frames.specs.declared.frame.Resume.{Resume}
use Rattle.gateway_frames.specs.declared.out.Out.TheVariants as outs
use Rattle.gateway_frames.specs.Read.{frame_of}
use Rattle.session_core.specs.State.{State, Session, Condition, Attached, Detached, Ended, is_on, is_live, attached, released, session_on, number_on}
use Rattle.session_core.specs.Rate.{is_rated}
use Rattle.session_core.specs.Frames.{Move, Nothing, ClosesWith, resume_move, read_move}
use Rattle.session_core.specs.Resume.{ResumeAnswer, NotResumable, InvalidSeq, Resumed, session_named, joined, resumed, resume_by, resume_answer}
use Rattle.world_law.specs.Resumes.{Covers, EachResumeHolds, GoesOn, IsBeyond, IsDenied, Reaches, sent_of}
use Rattle.world_law.specs.Inputs.{Frame, outputs, taken}
use Rattle.world_law.specs.Sends.{HasSent, IsNumber}
use Rattle.world_law.specs.Outputs.{Output, Says, sends}
use Rattle.world_law.specs.Sent.{Sent, dispatches}
use Rattle.world_law.specs.Model.{Worker, in_model, replay}
use Rattle.world_law.specs.Frames.{frame_sends, framed, move_at, older_sends}
use Rattle.world_law.proofs.Replays.{length_texts}
use Rattle.world_law.proofs.Resumes.{named_number, resent}
use Rattle.world_law.specs.Wants.{numbered}
use Rattle.world_law.proofs.Folds.{same_id}

-- ---- without the older connection

choose_sent : (b : Bool) (x : Session Sent) (next : Condition) → (if b then record x { condition = next } else x).sent ≡ x.sent
choose_sent true x next = refl
choose_sent false x next = refl

choose_number : (b : Bool) (x : Session Sent) (next : Condition) → (if b then record x { condition = next } else x).number ≡ x.number
choose_number true x next = refl
choose_number false x next = refl

pub sent_released : (conn now : ℕ) (x : Session Sent) → (released conn (Detached now) x).sent ≡ x.sent
sent_released conn now x = choose_sent (is_on conn x.condition) x (Detached now)

module _ (conn now number : ℕ) where
  abbrev cut : Session Sent → Session Sent
  cut x = released conn (Detached now) x

  test_released : (x : Session Sent) → (is_live (cut x).condition && ((cut x).number == number)) ≡ (is_live x.condition && (x.number == number))
  test_released x = by_condition x.condition
    where
      choose : (b : Bool) (c : ℕ) → let y : Session Sent = if b then record x { condition = Detached now } else record x { condition = Attached c } in
          (is_live y.condition && (y.number == number)) ≡ (x.number == number)
      choose true c = refl
      choose false c = refl

      by_condition : (condition : Condition) → let y : Session Sent = cut (record x { condition = condition }) in (is_live y.condition && (y.number == number)) ≡ (is_live condition && (x.number == number))
      by_condition (Attached c) = choose (c == conn) c
      by_condition (Detached since) = refl
      by_condition Ended = refl

  pub numbered_released : (xs : List (Session Sent)) → numbered number (map cut xs) ≡ option_map cut (numbered number xs)
  numbered_released [] = refl
  numbered_released (x ∷ xs) =
      ap (λ b. if b then Some (cut x) else numbered number (map cut xs)) (test_released x) ∙ by_test (is_live x.condition && (x.number == number)) (numbered_released xs)
    where
      by_test : (b : Bool) → numbered number (map cut xs) ≡ option_map cut (numbered number xs)
          → (if b then Some (cut x) else numbered number (map cut xs)) ≡ option_map cut (if b then Some x else numbered number xs)
      by_test true rest = refl
      by_test false rest = rest

all_sent_released : (conn now : ℕ) (xs : List (Session Sent)) → map sent_of (map (released conn (Detached now)) xs) ≡ map sent_of xs
all_sent_released conn now [] = refl
all_sent_released conn now (x ∷ xs) =
    ap (λ s. s ∷ map sent_of (map (released conn (Detached now)) xs)) (sent_released conn now x) ∙ ap (λ ss. x.sent ∷ ss) (all_sent_released conn now xs)

-- a session that loses the connection that it has, and gets another
moved_to : (conn c now : ℕ) (x : Session Sent) → record (released c (Detached now) x) { condition = Attached conn } ≡ record x { condition = Attached conn }
moved_to conn c now x = choose (is_on c x.condition)
  where
    choose : (b : Bool) → record (if b then record x { condition = Detached now } else x) { condition = Attached conn } ≡ record x { condition = Attached conn }
    choose true = refl
    choose false = refl

-- ---- on its new connection

module _ (conn number : ℕ) where
  numbered_joined : (xs : List (Session Sent)) (x : Session Sent) → numbered number xs ≡ Some x → numbered number (map (joined conn number) xs) ≡ Some (record x { condition = Attached conn })
  numbered_joined [] x found = absurd (cc found)
  numbered_joined (y ∷ ys) x found = by_test (is_live y.condition) (y.number == number) refl refl found (numbered_joined ys x)
    where
      no_both : (b : Bool) (y : Session Sent) → (if b && false then Some y else numbered number (map (joined conn number) ys)) ≡ numbered number (map (joined conn number) ys)
      no_both true y = refl
      no_both false y = refl

      by_test : (live own : Bool) → is_live y.condition ≡ live → (y.number == number) ≡ own → (if live && own then Some y else numbered number ys) ≡ Some x
          → (numbered number ys ≡ Some x → numbered number (map (joined conn number) ys) ≡ Some (record x { condition = Attached conn }))
          → let z : Session Sent = if live && own then record y { condition = Attached conn } else y in
          (if is_live z.condition && (z.number == number) then Some z else numbered number (map (joined conn number) ys)) ≡ Some (record x { condition = Attached conn })
      by_test true true live own found rest =
          let same : y ≡ x = same_Some y x found in
          ap (λ b. if b then Some (record y { condition = Attached conn }) else numbered number (map (joined conn number) ys)) own
          ∙ ap (λ (z : Session Sent). Some (record z { condition = Attached conn })) same
      by_test true false live own found rest =
          ap (λ b. if is_live y.condition && b then Some y else numbered number (map (joined conn number) ys)) own ∙ (no_both (is_live y.condition) y ∙ rest found)
      by_test false own live is found rest =
          ap (λ b. if b && (y.number == number) then Some y else numbered number (map (joined conn number) ys)) live ∙ rest found

  joined_sent : (xs : List (Session Sent)) → map sent_of (map (joined conn number) xs) ≡ map sent_of xs
  joined_sent [] = refl
  joined_sent (x ∷ xs) =
      ap (λ s. s ∷ map sent_of (map (joined conn number) xs)) (choose_sent (is_live x.condition && (x.number == number)) x (Attached conn)) ∙ ap (λ ss. x.sent ∷ ss) (joined_sent xs)

  joined_has : (n : ℕ) (d : Dispatch) (xs : List (Session Sent)) (x : Session Sent) → numbered number xs ≡ Some x → IsNumber n d (dispatches x.sent) → HasSent conn n d (map (joined conn number) xs)
  joined_has n d [] x found is = absurd (cc found)
  joined_has n d (y ∷ ys) x found is = by_test (is_live y.condition && (y.number == number)) found (λ later. joined_has n d ys x later is)
    where
      by_test : (b : Bool) → (if b then Some y else numbered number ys) ≡ Some x → (numbered number ys ≡ Some x → HasSent conn n d (map (joined conn number) ys))
          → HasSent conn n d ((if b then record y { condition = Attached conn } else y) ∷ map (joined conn number) ys)
      by_test true found rest =
          let same : x ≡ y = sym (same_Some y x found) in
          inl (same_id conn, subst (λ (z : Session Sent). IsNumber n d (dispatches z.sent)) same is)
      by_test false found rest = inr (rest found)

-- the session of the number after it has gone on
module _ (s : State Sent) (conn now : ℕ) (x : Session Sent) (number : ℕ) (found : numbered number s.sessions ≡ Some x) where
  at_cut : (c : ℕ) → numbered number (map (released c (Detached now)) s.sessions) ≡ Some (released c (Detached now) x)
  at_cut c = numbered_released c now number s.sessions ∙ ap (option_map (released c (Detached now))) found

  pub resumed_here : (older : Option ℕ) → numbered number (resumed conn now number older s).sessions ≡ Some (record x { condition = Attached conn })
  resumed_here None = numbered_joined conn number s.sessions x found
  resumed_here (Some c) = numbered_joined conn number (map (released c (Detached now)) s.sessions) (released c (Detached now) x) (at_cut c) ∙ ap Some (moved_to conn c now x)

  pub resumed_sent : (older : Option ℕ) → map sent_of (resumed conn now number older s).sessions ≡ map sent_of s.sessions
  resumed_sent None = joined_sent conn number s.sessions
  resumed_sent (Some c) = joined_sent conn number (map (released c (Detached now)) s.sessions) ∙ all_sent_released c now s.sessions

  pub resumed_has : (older : Option ℕ) (n : ℕ) (d : Dispatch) → IsNumber n d (dispatches x.sent) → HasSent conn n d (resumed conn now number older s).sessions
  resumed_has None n d is = joined_has conn number n d s.sessions x found is
  resumed_has (Some c) n d is =
      joined_has conn number n d (map (released c (Detached now)) s.sessions) (released c (Detached now) x) (at_cut c)
      (subst (λ (sent : Sent). IsNumber n d (dispatches sent)) (sym (sent_released c now x)) is)

-- ---- what a resume is answered

-- a connection without a session goes alone
none_on : (conn now : ℕ) (xs : List (Session Sent)) → is_some (find (λ (x : Session Sent). is_on conn x.condition) xs) ≡ false → map (released conn (Detached now)) xs ≡ xs
none_on conn now [] free = refl
none_on conn now (x ∷ xs) free = by_test (is_on conn x.condition) free (none_on conn now xs)
  where
    by_test : (b : Bool) → is_some (if b then Some x else find (λ (x : Session Sent). is_on conn x.condition) xs) ≡ false
        → (is_some (find (λ (x : Session Sent). is_on conn x.condition) xs) ≡ false → map (released conn (Detached now)) xs ≡ xs)
        → (if b then record x { condition = Detached now } else x) ∷ map (released conn (Detached now)) xs ≡ x ∷ xs
    by_test true free rest = absurd (cc free)
    by_test false free rest = ap (λ ys. x ∷ ys) (rest free)

no_number : (o : Option (Session Sent)) → is_some o ≡ false → option_map (λ (x : Session Sent). x.number) o ≡ None
no_number None free = refl
no_number (Some x) free = absurd (cc free)

module _ (text : ℕ → Dispatch → List ℕ) (w : Worker) (conn : ℕ) (received : List ℕ) (r : Resume) (reaches : Reaches w conn received r) where
  judged_so : move_at (in_model text) w conn received ≡ resume_move (resume_answer (replay text) w.core r)
  judged_so =
      ap (λ b. if b then (if is_rated conn w.now w.core then ClosesWith 4008 else read_move (replay text) w.core (number_on conn w.core) (frame_of received)) else Nothing) reaches.connected
      ∙ (ap (λ b. if b then ClosesWith 4008 else read_move (replay text) w.core (number_on conn w.core) (frame_of received)) reaches.few
      ∙ (ap (λ o. read_move (replay text) w.core o (frame_of received)) (no_number (session_on conn w.core) reaches.free) ∙ ap (read_move (replay text) w.core None) reaches.reads))

  as_moved : (P : Worker → List Output → Type 0) (answer : ResumeAnswer) → resume_answer (replay text) w.core r ≡ answer
      → P (framed (in_model text) w conn (resume_move answer)) (frame_sends (in_model text) w conn (resume_move answer)) → P (taken (in_model text) w (Frame conn received)) (outputs (in_model text) w (Frame conn received))
  as_moved P answer is made =
      subst (λ (m : Move). P (framed (in_model text) w conn m) (frame_sends (in_model text) w conn m)) (sym (judged_so ∙ ap resume_move is)) made

  denied : resume_answer (replay text) w.core r ≡ NotResumable → IsDenied w conn (taken (in_model text) w (Frame conn received)) (outputs (in_model text) w (Frame conn received))
  denied is = as_moved (IsDenied w conn) NotResumable is (refl, refl)

  module _ (x : Session Sent) (named : session_named r.session w.core ≡ Some x) where
    is_last : (replay text x.sent).last ≡ length (dispatches x.sent)
    is_last = length_texts text 0 (dispatches x.sent)

    by_tests : (own past below : Bool) → bytes_eq x.token r.token ≡ own → nat_lt (replay text x.sent).last r.seq ≡ past
        → nat_lt r.seq ((replay text x.sent).last - length (replay text x.sent).held) ≡ below
        → resume_answer (replay text) w.core r ≡ (if not own then NotResumable else (if past then InvalidSeq else (if below then NotResumable else Resumed x.number (attached x.condition) r.seq (replay text x.sent))))
    by_tests own past below o p b =
        ap (resume_by (replay text) r) named
        ∙ (ap (λ o. if not o then NotResumable else (if nat_lt (replay text x.sent).last r.seq then InvalidSeq else (if nat_lt r.seq ((replay text x.sent).last - length (replay text x.sent).held) then NotResumable else Resumed x.number (attached x.condition) r.seq (replay text x.sent)))) o
        ∙ (ap (λ p. if not own then NotResumable else (if p then InvalidSeq else (if nat_lt r.seq ((replay text x.sent).last - length (replay text x.sent).held) then NotResumable else Resumed x.number (attached x.condition) r.seq (replay text x.sent)))) p
        ∙ ap (λ b. if not own then NotResumable else (if past then InvalidSeq else (if b then NotResumable else Resumed x.number (attached x.condition) r.seq (replay text x.sent)))) b))

    other_token : ¬ (x.token ≡ r.token) → IsDenied w conn (taken (in_model text) w (Frame conn received)) (outputs (in_model text) w (Frame conn received))
    other_token differ =
        denied (by_tests false _ _ (false_from_ne_true (bytes_eq x.token r.token) (λ same. differ ((bytes_eq-Decides x.token r.token).0 same))) refl refl)

    module _ (own : x.token ≡ r.token) where
      owned : bytes_eq x.token r.token ≡ true
      owned = (bytes_eq-Decides x.token r.token).1 own

      above : length (dispatches x.sent) < r.seq → IsBeyond w conn (taken (in_model text) w (Frame conn received)) (outputs (in_model text) w (Frame conn received))
      above past =
          let is : nat_lt (replay text x.sent).last r.seq ≡ true = grind (arith, nat_tests, is_last, past) in
          as_moved (IsBeyond w conn) InvalidSeq (by_tests true true _ owned is refl) (refl, none_on conn w.now w.core.sessions reaches.free)

      under : r.seq < length (dispatches x.sent) - length (replay text x.sent).held → IsDenied w conn (taken (in_model text) w (Frame conn received)) (outputs (in_model text) w (Frame conn received))
      under below =
          let within : nat_lt (replay text x.sent).last r.seq ≡ false = grind (arith, nat_tests, is_last, below) in
          let is : nat_lt r.seq ((replay text x.sent).last - length (replay text x.sent).held) ≡ true = grind (arith, nat_tests, is_last, below) in
          denied (by_tests true false true owned within is)

      goes : Covers text x.sent r.seq → GoesOn text w conn r.seq x (taken (in_model text) w (Frame conn received)) (outputs (in_model text) w (Frame conn received))
      goes covers =
          let within : nat_lt (replay text x.sent).last r.seq ≡ false = grind (arith, nat_tests, is_last, covers.1) in
          let is : nat_lt r.seq ((replay text x.sent).last - length (replay text x.sent).held) ≡ false = grind (arith, nat_tests, is_last, covers.0) in
          let low : (replay text x.sent).last - length (replay text x.sent).held ≤ r.seq = grind (arith, is_last, covers.0) in
          let high : r.seq ≤ (replay text x.sent).last = grind (arith, is_last, covers.1) in
          let found = named_number w.core r.session x named in
          as_moved (GoesOn text w conn r.seq x) (Resumed x.number (attached x.condition) r.seq (replay text x.sent)) (by_tests true false false owned within is)
          (record {
            outputs = ap (λ out. older_sends (attached x.condition) ++ (out ++ Says conn (outs.Resumed (replay text x.sent).last) ∷ [])) (resent text conn x.sent r.seq low high)
                ∙ ap (λ n. older_sends (attached x.condition) ++ (sends text (Attached conn) r.seq (drop r.seq (dispatches x.sent)) ++ Says conn (outs.Resumed n) ∷ [])) is_last;
            here = resumed_here w.core conn w.now x x.number found (attached x.condition);
            sent = resumed_sent w.core conn w.now x x.number found (attached x.condition);
          })

pub each_resume_holds : EachResumeHolds
unfolding EachResumeHolds
each_resume_holds text w conn received r reaches = record {
  unknown = λ none. denied text w conn received r reaches (ap (resume_by (replay text) r) none);
  other = λ x named differ. other_token text w conn received r reaches x named differ;
  beyond = λ x named own past. above text w conn received r reaches x named own past;
  below = λ x named own low. under text w conn received r reaches x named own low;
  covered = λ x named own covers. goes text w conn received r reaches x named own covers;
}
