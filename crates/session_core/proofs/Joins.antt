-- A session that resumes, on another connection.
use Rattle.std.proofs.Common.{◌≡◌, ℕ, ◌<◌, ◌^◌, List, [], ◌∷◌, Bool, map, filter, not, true, false, cond, Option, Some, None, is_some, refl, sym, ap, ◌∙◌, arith, nat_eq, ◌==◌, ◌&&◌, inl, inr, eqb-true}
use Rattle.std.specs.Prelude.{Result, Ok, Err, IfOk}
use Rattle.std.specs.Option.{option_map, option_and_then, IfSome}
use Rattle.std.specs.List.{find, list_any, IsDistinct}
use Rattle.std.specs.Str.{bytes_eq}
use Rattle.std.specs.Map.{lookup, keys_of, set_value}
use Rattle.std.proofs.lemmas.Bool.{cases_Bool, cases_lt}
use Rattle.std.proofs.lemmas.Bool.Decides.{nat_tests}
use Rattle.std.proofs.lemmas.Option.{none-some, same_Some}
use Rattle.std.proofs.lemmas.Slice.Eq.{bytes_eq-Decides}
use Rattle.replay_ring.specs.Replay.{Replay}
use Rattle.session_core.specs.declared.kept.Connection.{Connection as KeptConnection}
use Rattle.session_core.specs.declared.kept.Session.{Session as KeptSession}
use Rattle.session_core.specs.declared.kept.Condition.TheVariants as condition
use Rattle.session_core.specs.declared.resume.ResumeAnswer.{ResumeAnswer as GivenAnswer}
use Rattle.session_core.specs.declared.resume.ResumeAnswer.TheVariants as given
use Rattle.session_core.specs.Resumption.{IsOwn, IsThere}
use Rattle.session_core.specs.State.{State, Connection, Session, Condition, Attached, Detached, Ended, is_on, is_live, attached, released, has_connection, has_session, gone}
use Rattle.session_core.specs.Resume.{session_id, joined}
use Rattle.session_core.specs.Kept.{condition_of, conn_of, session_of, session_at, conn_at, IsKept}
use Rattle.session_core.proofs.Entries.{absent-same, once-after, is_live-condition}
use Rattle.session_core.proofs.Indexes.{attached-kept}
use Rattle.session_core.proofs.Changes.{Agree-tie, IsSetAt, session_at-set, conn_at-set, is_apart}

-- ---- the session of a number, or of an id

abbrev at_number : ℕ → KeptSession → Session Replay
at_number n x = session_of (n, x)

pub find-kept : (es : List (ℕ × KeptSession)) (n : ℕ) → find (λ (x : Session Replay). x.number == n) (map session_of es) ≡ option_map (at_number n) (lookup (nat_eq n) es)
find-kept [] n = refl
find-kept (e ∷ es) n = elim (cases_Bool (nat_eq n e.0)) [
  | inl same ↦ grind (arith, nat_tests, same, find-kept es n)
  | inr apart ↦ grind (arith, nat_tests, apart, find-kept es n)
]

abbrev pub is_named : ℕ → List ℕ → Session Replay → Bool
is_named worker id x = is_live x.condition && bytes_eq (session_id worker x.number) id

-- the id has one number at most, if there is one
module _ (worker : ℕ) (id : List ℕ) (o : Option ℕ) (all : (n : ℕ) → n < 2 ^ 32 → session_id worker n ≡ id → o ≡ Some n) where
  abbrev AreSmall : List (ℕ × KeptSession) → Type 0
  AreSmall es = (k : ℕ) → is_some (lookup (nat_eq k) es) ≡ true → k < 2 ^ 32

  small_later : (e : ℕ × KeptSession) (es : List (ℕ × KeptSession)) → AreSmall (e ∷ es) → AreSmall es
  small_later e es small k there = small k (by_test (nat_eq k e.0))
    where
      by_test : (b : Bool) → is_some (cond b (Some e.1) (lookup (nat_eq k) es)) ≡ true
      by_test true = refl
      by_test false = there

  small_here : (e : ℕ × KeptSession) (es : List (ℕ × KeptSession)) → AreSmall (e ∷ es) → e.0 < 2 ^ 32
  small_here e es small = small e.0 (grind (arith, nat_tests))

  named_here : (e : ℕ × KeptSession) → e.0 < 2 ^ 32 → (b : Bool) → bytes_eq (session_id worker e.0) id ≡ b → o ≡ None → b ≡ false
  named_here e small true is none = absurd (none-some e.0 (sym none ∙ all e.0 small ((bytes_eq-Decides (session_id worker e.0) id).0 is)))
  named_here e small false is none = refl

  named_none : (es : List (ℕ × KeptSession)) → AreSmall es → o ≡ None → find (is_named worker id) (map session_of es) ≡ None
  named_none [] small none = refl
  named_none (e ∷ es) small none =
      let other : bytes_eq (session_id worker e.0) id ≡ false = named_here e (small_here e es small) (bytes_eq (session_id worker e.0) id) refl none in
      rw (is_live-condition e.1.condition, other) (named_none es (small_later e es small) none)

  named_other : (e : ℕ × KeptSession) (n : ℕ) → e.0 < 2 ^ 32 → (b : Bool) → bytes_eq (session_id worker e.0) id ≡ b → o ≡ Some n → nat_eq n e.0 ≡ false → b ≡ false
  named_other e n small true is one apart =
      let same : n ≡ e.0 = same_Some n e.0 (sym one ∙ all e.0 small ((bytes_eq-Decides (session_id worker e.0) id).0 is)) in
      absurd (grind (arith, nat_tests, same, apart))
  named_other e n small false is one apart = refl

  named_one : (es : List (ℕ × KeptSession)) (n : ℕ) → AreSmall es → o ≡ Some n → session_id worker n ≡ id → find (is_named worker id) (map session_of es) ≡ option_map (at_number n) (lookup (nat_eq n) es)
  named_one [] n small one is = refl
  named_one (e ∷ es) n small one is = elim (cases_Bool (nat_eq n e.0)) [
    | inl same ↦
        let here : n ≡ e.0 = eqb-true n e.0 same in
        let own : bytes_eq (session_id worker e.0) id ≡ true = (bytes_eq-Decides (session_id worker e.0) id).1 (ap (session_id worker) (sym here) ∙ is) in
        rw (is_live-condition e.1.condition, own, same, here) refl
    | inr apart ↦
        let other : bytes_eq (session_id worker e.0) id ≡ false = named_other e n (small_here e es small) (bytes_eq (session_id worker e.0) id) refl one apart in
        rw (is_live-condition e.1.condition, other, apart) (named_one es n (small_later e es small) one is)
  ]

  -- the session of the id is that of its number
  pub named-kept : (es : List (ℕ × KeptSession)) → AreSmall es → IfSome o (λ n. session_id worker n ≡ id)
      → find (is_named worker id) (map session_of es) ≡ option_and_then (λ n. find (λ (x : Session Replay). x.number == n) (map session_of es)) o
  named-kept es small is = by_number o refl is
    where
      by_number : (p : Option ℕ) → o ≡ p → IfSome p (λ n. session_id worker n ≡ id)
          → find (is_named worker id) (map session_of es) ≡ option_and_then (λ n. find (λ (x : Session Replay). x.number == n) (map session_of es)) p
      by_number None none is = named_none es small none
      by_number (Some n) one is = named_one es n small one is ∙ sym (find-kept es n)

-- a session that exists has a number of those that were made
pub small-kept : (made : ℕ) (connections : List (ℕ × KeptConnection)) (es : List (ℕ × KeptSession)) → IsKept made connections es → (k : ℕ) → is_some (lookup (nat_eq k) es) ≡ true → k < 2 ^ 32
small-kept made connections es kept k there = elim (cases_lt made k) [
  | inl above ↦
      let none : lookup (nat_eq k) es ≡ None = kept.counted k above in
      absurd (grind (arith, none, there))
  | inr within ↦ omega (arith, within, kept.small)
]

-- the connection of the session of a number
abbrev on_now : Session Replay → Option ℕ
on_now x = attached x.condition

pub not-absent : (es : List (ℕ × KeptSession)) (n : ℕ) → option_map on_now (find (λ (x : Session Replay). x.number == n) (map session_of es)) ≡ Some None → lookup (nat_eq n) es ≡ None → ⊥
not-absent es n there absent =
    let none : option_map on_now (find (λ (x : Session Replay). x.number == n) (map session_of es)) ≡ None = ap (option_map on_now) (find-kept es n ∙ ap (option_map (at_number n)) absent) in
    none-some None (sym none ∙ there)

pub off-there : (es : List (ℕ × KeptSession)) (n : ℕ) (x : KeptSession) → option_map on_now (find (λ (x : Session Replay). x.number == n) (map session_of es)) ≡ Some None → lookup (nat_eq n) es ≡ Some x
    → conn_of x.condition ≡ None
off-there es n x there found =
    let is : option_map on_now (find (λ (x : Session Replay). x.number == n) (map session_of es)) ≡ Some (attached (condition_of x.condition)) = ap (option_map on_now) (find-kept es n ∙ ap (option_map (at_number n)) found) in
    sym (attached-kept x.condition) ∙ same_Some (attached (condition_of x.condition)) None (sym is ∙ there)

-- ---- a connection and a session that have none

pub joined-kept : (es : List (ℕ × KeptSession)) (c n : ℕ) (x : KeptSession) → IsDistinct nat_eq (keys_of es) → lookup (nat_eq n) es ≡ Some x
    → map session_of (set_value (nat_eq n) es (record x { condition = condition.Attached c })) ≡ map (joined c n) (map session_of es)
joined-kept [] c n x once there = refl
joined-kept (e ∷ es) c n x once there =
    elim (cases_Bool (nat_eq n e.0)) [
      | inl same ↦
          let first : e.1 ≡ x = grind (arith, same, there) in
          let rest : map (joined c n) (map session_of es) ≡ map session_of es = joined-absent es c n (absent-same n e es once same) in
          grind (arith, nat_tests, same, first, rest, is_live-condition e.1.condition)
      | inr apart ↦
          let later : lookup (nat_eq n) es ≡ Some x = rw apart at there in
          grind (arith, nat_tests, apart, joined-kept es c n x (once-after e es once) later)
    ]
  where
    joined-absent : (es : List (ℕ × KeptSession)) (c n : ℕ) → lookup (nat_eq n) es ≡ None → map (joined c n) (map session_of es) ≡ map session_of es
    joined-absent [] c n absent = refl
    joined-absent (e ∷ es) c n absent = grind (arith, nat_tests, joined-absent es c n)

pub IsKept-joined : (made : ℕ) (connections connections' : List (ℕ × KeptConnection)) (old new : List (ℕ × KeptSession)) (c n : ℕ) (l : KeptConnection) (x y : KeptSession)
    → IsKept made connections old → session_at connections c ≡ None → lookup (nat_eq n) old ≡ Some y → conn_of y.condition ≡ None
    → l.session ≡ Some n → conn_of x.condition ≡ Some c
    → IsDistinct nat_eq (keys_of connections') → IsSetAt c (Some l) connections connections'
    → IsDistinct nat_eq (keys_of new) → IsSetAt n (Some x) old new
    → IsKept made connections' new
IsKept-joined made connections connections' old new c n l x y kept free there off here on once is once' is' = record {
  connections_once = once;
  sessions_once = once';
  counted = λ m above. is' m ∙ (let apart : nat_eq n m ≡ false = is_apart made old n m kept.counted (rw there refl) above in rw apart (kept.counted m above));
  agree = Agree-tie (session_at connections) (conn_at old) (session_at connections') (conn_at new) c n kept.agree free none
      (λ k. session_at-set connections connections' c (Some l) is k ∙ ap (λ w. cond (nat_eq c k) w (session_at connections k)) here)
      (λ m. conn_at-set old new n (Some x) is' m ∙ ap (λ w. cond (nat_eq n m) w (conn_at old m)) on);
  small = kept.small;
}
  where
    none : conn_at old n ≡ None
    none = rw (there, off) refl

-- ---- without the older connection

module _ (conn older now : ℕ) where
  gone_connection : (ls : List Connection) → (conn == older) ≡ false → list_any (λ (l : Connection). l.number == conn) ls ≡ true
      → list_any (λ (l : Connection). l.number == conn) (filter (λ (l : Connection). not (l.number == older)) ls) ≡ true
  gone_connection [] apart there = there
  gone_connection (l ∷ ls) apart there = elim (cases_Bool (l.number == conn)) [
    | inl here ↦
        let other : (l.number == older) ≡ false = grind (arith, nat_tests, here, apart) in
        rw (other, here) refl
    | inr off ↦
        let later : list_any (λ (l : Connection). l.number == conn) ls ≡ true = rw off at there in
        elim (cases_Bool (l.number == older)) [
          | inl same ↦ rw same (gone_connection ls apart later)
          | inr other ↦ rw (other, off) (gone_connection ls apart later)
        ]
  ]

  released_off : (x : Session Replay) → is_on conn x.condition ≡ false → is_on conn (released older (Detached now) x).condition ≡ false
  released_off x off = elim (cases_Bool (is_on older x.condition)) [
    | inl on ↦ rw on refl
    | inr other ↦ rw other off
  ]

  gone_free : (xs : List (Session Replay)) → is_some (find (λ (x : Session Replay). is_on conn x.condition) xs) ≡ false
      → is_some (find (λ (x : Session Replay). is_on conn x.condition) (map (released older (Detached now)) xs)) ≡ false
  gone_free [] free = refl
  gone_free (x ∷ xs) free = elim (cases_Bool (is_on conn x.condition)) [
    | inl on ↦ absurd (grind (arith, on, free))
    | inr off ↦
        let later : is_some (find (λ (x : Session Replay). is_on conn x.condition) xs) ≡ false = rw off at free in
        rw (released_off x off) (gone_free xs later)
  ]

  -- a session that is found has no connection that is free
  off_found : (p : Session Replay → Bool) (xs : List (Session Replay)) (x : Session Replay) → is_some (find (λ (x : Session Replay). is_on conn x.condition) xs) ≡ false
      → find p xs ≡ Some x → is_on conn x.condition ≡ false
  off_found p [] x free found = absurd (none-some x found)
  off_found p (y ∷ xs) x free found = elim (cases_Bool (is_on conn y.condition)) [
    | inl on ↦ absurd (grind (arith, on, free))
    | inr off ↦
        let later : is_some (find (λ (x : Session Replay). is_on conn x.condition) xs) ≡ false = rw off at free in
        elim (cases_Bool (p y)) [
          | inl here ↦ let same : y ≡ x = same_Some y x (rw here at found) in rw (← same) off
          | inr other ↦ off_found p xs x later (rw other at found)
        ]
  ]

  find_released : (n : ℕ) (xs : List (Session Replay)) → find (λ (x : Session Replay). x.number == n) (map (released older (Detached now)) xs)
      ≡ option_map (released older (Detached now)) (find (λ (x : Session Replay). x.number == n) xs)
  find_released n [] = refl
  find_released n (x ∷ xs) =
      let number : (released older (Detached now) x).number ≡ x.number = number_released x in
      elim (cases_Bool (x.number == n)) [
        | inl here ↦ rw (number, here) refl
        | inr other ↦ rw (number, other) (find_released n xs)
      ]
    where
      number_released : (x : Session Replay) → (released older (Detached now) x).number ≡ x.number
      number_released x = elim (cases_Bool (is_on older x.condition)) [
        | inl on ↦ rw on refl
        | inr off ↦ rw off refl
      ]

  released_attached : (x : Session Replay) → attached x.condition ≡ Some older → attached (released older (Detached now) x).condition ≡ None
  released_attached x is = by_condition x.condition is
    where
      by_condition : (next : Condition) → attached next ≡ Some older → attached (released older (Detached now) (record x { condition = next })).condition ≡ None
      by_condition (Attached c) is =
          let on : (c == older) ≡ true = grind (arith, nat_tests, is) in
          rw on refl
      by_condition (Detached since) is = refl
      by_condition Ended is = refl

  apart_of : (o : Option (Session Replay)) (p : Session Replay → Bool) (xs : List (Session Replay)) → find p xs ≡ o → option_map (λ (x : Session Replay). attached x.condition) o ≡ Some (Some older)
      → is_some (find (λ (x : Session Replay). is_on conn x.condition) xs) ≡ false → (conn == older) ≡ false
  apart_of None p xs found there free = absurd (cc)
  apart_of (Some x) p xs found there free = by_condition x.condition (off_found p xs x free found) (cc)
    where
      by_condition : (next : Condition) → is_on conn next ≡ false → attached next ≡ Some older → (conn == older) ≡ false
      by_condition (Attached c) off is = grind (arith, nat_tests, off, is)
      by_condition (Detached since) off is = absurd (cc)
      by_condition Ended off is = absurd (cc)

  pub cut_connections : (s : State Replay) (n : ℕ) → has_connection conn s ≡ true → has_session conn s ≡ false
      → option_map (λ (x : Session Replay). attached x.condition) (find (λ (x : Session Replay). x.number == n) s.sessions) ≡ Some (Some older)
      → has_connection conn (gone older (Detached now) s) ≡ true
  cut_connections s n connected free there =
      gone_connection s.connections (apart_of (find (λ (x : Session Replay). x.number == n) s.sessions) (λ (x : Session Replay). x.number == n) s.sessions refl there free) connected

  pub cut_free : (s : State Replay) → has_session conn s ≡ false → has_session conn (gone older (Detached now) s) ≡ false
  cut_free s free = gone_free s.sessions free

  pub cut_there : (s : State Replay) (n : ℕ) → option_map (λ (x : Session Replay). attached x.condition) (find (λ (x : Session Replay). x.number == n) s.sessions) ≡ Some (Some older)
      → option_map (λ (x : Session Replay). attached x.condition) (find (λ (x : Session Replay). x.number == n) (gone older (Detached now) s).sessions) ≡ Some None
  cut_there s n there = ap (option_map (λ (x : Session Replay). attached x.condition)) (find_released n s.sessions) ∙ by_found (find (λ (x : Session Replay). x.number == n) s.sessions) there
    where
      by_found : (o : Option (Session Replay)) → option_map (λ (x : Session Replay). attached x.condition) o ≡ Some (Some older)
          → option_map (λ (x : Session Replay). attached x.condition) (option_map (released older (Detached now)) o) ≡ Some None
      by_found None is = absurd (cc)
      by_found (Some x) is = ap Some (released_attached x (cc))

-- ---- a session that resumes exists

there_of : (s : State Replay) (number : ℕ) (x : KeptSession) (answer : GivenAnswer) → find (λ (y : Session Replay). y.number == number) s.sessions ≡ Some (session_of (number, x)) → IsOwn number x answer → IsThere s answer
there_of s number x given.NotResumable found own = tt
there_of s number x given.InvalidSeq found own = tt
there_of s number x (given.Resumed session) found own =
    ap (λ n. option_map on_now (find (λ (y : Session Replay). y.number == n) s.sessions)) own.0
    ∙ (ap (option_map on_now) found ∙ ap Some (attached-kept x.condition ∙ sym own.1))

pub there_kept : (s : State Replay) (number : ℕ) (x : KeptSession) {E : Type 0} (result : Result GivenAnswer E) → find (λ (y : Session Replay). y.number == number) s.sessions ≡ Some (session_of (number, x))
    → IfOk result (λ answer. IsOwn number x answer) → IfOk result (λ answer. IsThere s answer)
there_kept s number x (Ok answer) found own = there_of s number x answer found own
there_kept s number x (Err e) found own = tt
