-- Sessions by their indexes, and what a call that sends to them leaves.
use Rattle.std.proofs.Common.{◌≡◌, ℕ, ◌+◌, ◌-◌, ◌^◌, ◌<◌, ◌≤◌, List, [], ◌∷◌, ◌++◌, true, false, Option, Some, Result, Ok, Err, MatchResult, OnOk, suc, zero, length, take, drop, get_or, refl, sym, ap, ◌∙◌, append_assoc, arith}
use Rattle.std.specs.Prelude.{◌&&◌, nat_lt, slice_get, slice_set}
use Rattle.std.specs.Prelude.{option_map}
use Rattle.std.specs.Option.{option_map_or}
use Rattle.serde_json.specs.Written.{compact_text}
use Rattle.event_json.specs.Text.{data_of}
use Rattle.replay_ring.specs.Replay.{Replay, pushed, pushed_all}
use Rattle.std.proofs.Math.Seq.{take-suc, drop-cons}
use Rattle.std.proofs.lemmas.List.{length-append}
use Rattle.std.proofs.lemmas.Grind.{fold-append}
use Rattle.std.proofs.lemmas.Bool.Decides.{nat_tests}
use Rattle.dispatch_types.specs.declared.dispatch.Dispatch.{Dispatch}
use Rattle.session_core.specs.State.{State, Session, Condition, Attached, Detached, Ended, attached}
use Rattle.session_core.specs.Pushes.{next_number, further_by, pushed_at}
use Rattle.worker_core.specs.declared.io.Output.{Output as Written}
use Rattle.worker_core.specs.declared.io.StepFault.{StepFault}
use Rattle.worker_core.specs.declared.io.StepFault.TheVariants.{Spent, Memory}
use Rattle.worker_core.specs.Telling.{FailsAt, IsAt, TellsAt, further, sent_to}
use Rattle.world_law.specs.Outputs.{Sends, sends, texts_from}
use Rattle.worker_core.specs.Outputs.{all_written, written}
use Rattle.world_law.specs.Spent.{is_past}
use Rattle.world_law.proofs.Replays.{length_texts, texts_join}
use Rattle.world_law.proofs.Lists.{map_join}
use Rattle.worker_core.specs.InCode.{wire_text}
use Rattle.world_law.specs.Keeping.{with_sessions}

one_more : (i : ℕ) → i + 1 ≡ suc i
one_more i = omega arith

pub get_at : {A : Type 0} (front : List A) (x : A) (back : List A) → slice_get (front ++ x ∷ back) (length front) ≡ Some x
get_at [] x back = refl
get_at (f ∷ front) x back = get_at front x back

pub set_at : {A : Type 0} (front : List A) (x : A) (back : List A) (y : A) → slice_set (front ++ x ∷ back) (length front) y ≡ front ++ y ∷ back
set_at [] x back y = refl
set_at (f ∷ front) x back y = ap (λ zs. f ∷ zs) (set_at front x back y)

-- a list split at an index
pub record Split {A : Type 0} (xs : List A) (i : ℕ) : Type 0 where
  pub front : List A
  pub item : A
  pub back : List A
  pub whole : xs ≡ front ++ item ∷ back
  pub index : i ≡ length front

pub split_at : {A : Type 0} (xs : List A) (i : ℕ) → i < length xs → Split xs i
split_at [] i lt = absurd (omega arith)
split_at (x ∷ xs) zero lt = record { front = []; item = x; back = xs; whole = refl; index = refl }
split_at (x ∷ xs) (suc i) lt =
    let rest = split_at xs i (omega arith) in
    record { front = x ∷ rest.front; item = rest.item; back = rest.back; whole = ap (λ ys. x ∷ ys) rest.whole; index = ap suc rest.index }

-- one text kept
pub pushed_is : (index : ℕ) (text : List ℕ) (front : List (Session Replay)) (x : Session Replay) (back : List (Session Replay)) (old : State Replay) → IsAt index front x back old
    → pushed_at index text old ≡ with_sessions (front ++ further_by text x ∷ back) old
pushed_is index text front x back old at =
    ap (λ xs. with_sessions xs old)
    (ap (λ xs. option_map_or (λ y. slice_set xs index (further_by text y)) (slice_get xs index) xs) at.0
    ∙ (ap (λ n. option_map_or (λ y. slice_set (front ++ x ∷ back) n (further_by text y)) (slice_get (front ++ x ∷ back) n) (front ++ x ∷ back)) at.1
    ∙ (ap (λ o. option_map_or (λ y. slice_set (front ++ x ∷ back) (length front) (further_by text y)) o (front ++ x ∷ back)) (get_at front x back)
    ∙ set_at front x back (further_by text x))))

-- the number of the last of some texts more
last_pushed : (r : Replay) (texts : List (List ℕ)) → (pushed_all r texts).last ≡ r.last + length texts
last_pushed r [] = omega arith
last_pushed r (t ∷ texts) = last_pushed (pushed r t) texts ∙ omega arith

last_further : (ds : List Dispatch) (x : Session Replay) → (further ds x).sent.last ≡ x.sent.last + length ds
last_further ds x = last_pushed x.sent (texts_from wire_text x.sent.last ds) ∙ ap (λ n. x.sent.last + n) (length_texts wire_text x.sent.last ds)

-- dispatches more, and then more
further_join : (ds es : List Dispatch) (x : Session Replay) → further es (further ds x) ≡ further (ds ++ es) x
further_join ds es x =
    ap (λ n. record x { sent = pushed_all (further ds x).sent (texts_from wire_text n es) }) (last_further ds x)
    ∙ ap (λ r. record x { sent = r })
    (sym (fold-append pushed x.sent (texts_from wire_text x.sent.last ds) (texts_from wire_text (x.sent.last + length ds) es)) ∙ ap (pushed_all x.sent) (sym (texts_join wire_text x.sent.last ds es)))

pub found_at : (index : ℕ) (front : List (Session Replay)) (x : Session Replay) (back : List (Session Replay)) (old : State Replay) → IsAt index front x back old
    → slice_get old.sessions index ≡ Some x
found_at index front x back old at = ap (λ xs. slice_get xs index) at.0 ∙ (ap (λ n. slice_get (front ++ x ∷ back) n) at.1 ∙ get_at front x back)

-- what goes out of two lists of dispatches
pub sends_join : (condition : Condition) (n : ℕ) (ds es : List Dispatch) → sends wire_text condition n (ds ++ es) ≡ sends wire_text condition n ds ++ sends wire_text condition (n + length ds) es
sends_join (Attached conn) n [] es = ap (λ m. sends wire_text (Attached conn) m es) (omega arith)
sends_join (Attached conn) n (d ∷ ds) es = ap (λ out. Sends conn (wire_text (n + 1) d) ∷ out)
    (sends_join (Attached conn) (n + 1) ds es ∙ ap (λ m. sends wire_text (Attached conn) (n + 1) ds ++ sends wire_text (Attached conn) m es) (omega arith))
sends_join (Detached since) n ds es = refl
sends_join Ended n ds es = refl

-- counts past what can be counted
pub past_no : (n : ℕ) → is_past n 0 ≡ false
past_no n = refl

pub past_is : (n m : ℕ) → 0 < m → is_past n m ≡ nat_lt (2 ^ 64 - 1) (n + m)
past_is n m lt = ap (λ b. b && nat_lt (2 ^ 64 - 1) (n + m)) (some m lt)
  where
    some : (m : ℕ) → 0 < m → nat_lt 0 m ≡ true
    some m lt = grind (arith, nat_tests)

pub past_more : (n m k : ℕ) → m ≤ k → is_past n m ≡ true → is_past n k ≡ true
past_more n m k le past = grind (arith, nat_tests)

pub past_step : (n m : ℕ) → is_past (n + m) 1 ≡ is_past n (m + 1)
past_step n m = ap (λ k. nat_lt (2 ^ 64 - 1) k) (omega arith) ∙ sym (past_is n (m + 1) (omega arith))

-- one dispatch more
module _ (index : ℕ) (ds : List Dispatch) (d : Dispatch) (old mid : State Replay) (before outm : List Written) (told : TellsAt index (λ x. ds) old mid before outm) where
  between : (front back : List (Session Replay)) (x : Session Replay) → IsAt index front x back old → IsAt index front (further ds x) back mid
  between front back x at = (ap (λ (s : State Replay). s.sessions) (told front back x at).0, at.1)

  pub tells_more : (new : State Replay) (out : List Written) → TellsAt index (λ x. d ∷ []) mid new outm out → TellsAt index (λ x. ds ++ d ∷ []) old new before out
  tells_more new out next front back x at =
      let first = told front back x at in
      let after = next front back (further ds x) (between front back x at) in
      let count : length (ds ++ d ∷ []) ≡ length ds + 1 = length-append ds (d ∷ []) in
      let last : (further ds x).sent.last ≡ x.sent.last + length ds = last_further ds x in (
        after.0
            ∙ (ap (λ (s : State Replay). with_sessions (front ++ further (d ∷ []) (further ds x) ∷ back) s) first.0
            ∙ ap (λ (y : Session Replay). with_sessions (front ++ y ∷ back) old) (further_join ds (d ∷ []) x)),
        (
          after.1.0 ∙ (ap (λ ws. ws ++ all_written (sends wire_text x.condition (further ds x).sent.last (d ∷ []))) first.1.0
              ∙ (ap (λ n. (before ++ all_written (sends wire_text x.condition x.sent.last ds)) ++ all_written (sends wire_text x.condition n (d ∷ []))) last
              ∙ (append_assoc before (all_written (sends wire_text x.condition x.sent.last ds)) (all_written (sends wire_text x.condition (x.sent.last + length ds) (d ∷ [])))
              ∙ ap (λ ws. before ++ ws)
              (sym (map_join written (sends wire_text x.condition x.sent.last ds) (sends wire_text x.condition (x.sent.last + length ds) (d ∷ [])))
              ∙ ap all_written (sym (sends_join x.condition x.sent.last ds (d ∷ []))))))),
          ap (λ n. is_past x.sent.last n) count ∙ (sym (past_step x.sent.last (length ds)) ∙ (ap (λ n. is_past n 1) (sym last) ∙ after.1.1)),
        ),
      )

  pub fails_more : (rest : List Dispatch) (fault : StepFault) → FailsAt index (λ x. d ∷ []) mid fault → FailsAt index (λ x. ds ++ d ∷ rest) old fault
  fails_more rest Memory fails front back x at = tt
  fails_more rest Spent fails front back x at =
      let past : is_past x.sent.last (length ds + 1) ≡ true =
      sym (past_step x.sent.last (length ds)) ∙ (ap (λ n. is_past n 1) (sym (last_further ds x)) ∙ fails front back (further ds x) (between front back x at)) in
      past_more x.sent.last (length ds + 1) (length (ds ++ d ∷ rest)) (omega (arith, length-append ds (d ∷ rest))) past

pub tells_one : (index : ℕ) (d : Dispatch) (old new : State Replay) (number : ℕ) (conn : Option ℕ) (text : List ℕ) (before out : List Written)
    → option_map next_number (slice_get old.sessions index) ≡ Some number → number < 2 ^ 64
    → option_map (λ (x : Session Replay). attached x.condition) (slice_get old.sessions index) ≡ Some conn
    → text ≡ compact_text (data_of d number) → new ≡ pushed_at index text old → out ≡ before ++ sent_to conn text
    → TellsAt index (λ x. d ∷ []) old new before out
tells_one index d old new number conn text before out by fits goes is kept sent front back x at =
    let found = found_at index front x back old at in
    let next : x.sent.last + 1 ≡ number = cc (ap (option_map next_number) (sym found) ∙ by) in
    let to : attached x.condition ≡ conn = cc (ap (option_map (λ (x : Session Replay). attached x.condition)) (sym found) ∙ goes) in
    let whole : text ≡ compact_text (data_of d (x.sent.last + 1)) = is ∙ ap (λ n. compact_text (data_of d n)) (sym next) in (
      kept ∙ (ap (λ t. pushed_at index t old) whole ∙ pushed_is index (compact_text (data_of d (x.sent.last + 1))) front x back old at),
      (
        sent ∙ ap (λ ws. before ++ ws) (ap (λ c. sent_to c text) (sym to) ∙ (ap (λ t. sent_to (attached x.condition) t) whole ∙ by_condition x.condition)),
        past_is x.sent.last 1 (omega arith) ∙ few (x.sent.last + 1) (omega (arith, next, fits)),
      ),
    )
  where
    by_condition : (p : Condition) → sent_to (attached p) (compact_text (data_of d (x.sent.last + 1))) ≡ all_written (sends wire_text p x.sent.last (d ∷ []))
    by_condition (Attached c) = refl
    by_condition (Detached since) = refl
    by_condition Ended = refl

    few : (n : ℕ) → n < 2 ^ 64 → nat_lt (2 ^ 64 - 1) n ≡ false
    few n lt = grind (arith, nat_tests)

pub fails_one : (index : ℕ) (d : Dispatch) (old : State Replay) → option_map (λ (x : Session Replay). x.sent.last) (slice_get old.sessions index) ≡ Some (2 ^ 64 - 1)
    → FailsAt index (λ x. d ∷ []) old Spent
fails_one index d old last front back x at =
    let is : x.sent.last ≡ 2 ^ 64 - 1 = cc (ap (option_map (λ (y : Session Replay). y.sent.last)) (sym (found_at index front x back old at)) ∙ last) in
    past_is x.sent.last 1 (omega arith) ∙ ap (λ n. nat_lt (2 ^ 64 - 1) (n + 1)) is

-- one item more of a list
pub last_taken : {A : Type 0} (xs : List A) (i : ℕ) (x : A) → i < length xs → get_or xs i x ≡ x → take (i + 1) xs ≡ take i xs ++ x ∷ []
last_taken xs i x lt at = ap (λ n. take n xs) (one_more i) ∙ (take-suc xs i x lt ∙ ap (λ y. take i xs ++ y ∷ []) at)

pub rest_dropped : {A : Type 0} (xs : List A) (i : ℕ) (x : A) → i < length xs → get_or xs i x ≡ x → drop i xs ≡ x ∷ drop (i + 1) xs
rest_dropped xs i x lt at = drop-cons xs i x lt ∙ (ap (λ y. y ∷ drop (suc i) xs) at ∙ ap (λ n. x ∷ drop n xs) (sym (one_more i)))

pub as_many_at : (index : ℕ) (due : Session Replay → List Dispatch) (old new : State Replay) (before out : List Written) → index < length old.sessions
    → TellsAt index due old new before out → length new.sessions ≡ length old.sessions
as_many_at index due old new before out lt told =
    let split = split_at old.sessions index lt in
    let x = split.item in
    ap (λ (s : State Replay). length s.sessions) (told split.front split.back x (split.whole, split.index)).0
    ∙ (length-append split.front (further (due x) x ∷ split.back) ∙ (sym (length-append split.front (x ∷ split.back)) ∙ ap length (sym split.whole)))

pub kept_many : (r : Result (Unit {0}) StepFault) (index : ℕ) (due : Session Replay → List Dispatch) (old new : State Replay) (before out : List Written) → index < length old.sessions
    → MatchResult r (λ _. TellsAt index due old new before out) (FailsAt index due old) → OnOk r (length new.sessions ≡ length old.sessions)
kept_many (Ok x) index due old new before out lt told = as_many_at index due old new before out lt told
kept_many (Err fault) index due old new before out lt fails = tt
