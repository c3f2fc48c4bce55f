-- What is kept by numbers, and the lists that it represents.
use Rattle.std.proofs.Common.{◌≡◌, ℕ, List, [], ◌∷◌, ◌++◌, map, filter, not, true, false, if◌then◌else◌, Option, Some, None, is_some, refl, sym, ap, subst, ◌∙◌, arith, eqb-true, eq-eqb, nat_eq, ◌==◌, inl, inr}
use Rattle.std.specs.Option.{option_map}
use Rattle.std.specs.List.{find, list_any, IsDistinct, AllByRecursion}
use Rattle.std.specs.Map.{lookup, keys_of, set_value, remove_entry}
use Rattle.std.proofs.lemmas.List.{map-append}
use Rattle.std.proofs.lemmas.Bool.{cases_Bool, false_from_ne_true}
use Rattle.std.proofs.lemmas.Bool.Decides.{nat_tests}
use Rattle.std.proofs.lemmas.Map.{lookup-none, NonePasses}
use Rattle.std.proofs.lemmas.Option.{none-some}
use Rattle.std.proofs.lemmas.Map.Keys.{IsDistinct-head, IsDistinct-tail}
use Rattle.session_core.specs.declared.kept.Connection.{Connection as KeptConnection}
use Rattle.session_core.specs.declared.kept.Session.{Session as KeptSession}
use Rattle.session_core.specs.declared.kept.Condition.{Condition as KeptCondition}
use Rattle.session_core.specs.declared.kept.Condition.TheVariants as condition
use Rattle.replay_ring.specs.Replay.{Replay}
use Rattle.session_core.specs.State.{Connection, Session, Condition, is_on, is_live, released}
use Rattle.session_core.specs.Kept.{condition_of, conn_of, connection_of, session_of, conn_at}

-- ---- a number that exists once

none_passes : {V : Type 0} (k : ℕ) (es : List (ℕ × V)) → AllByRecursion (λ y. nat_eq k y ≡ false) (keys_of es) → NonePasses (nat_eq k) es
none_passes k [] h = tt
none_passes k (e ∷ es) h = (h.0, none_passes k es h.1)

pub absent-after : {V : Type 0} (e : ℕ × V) (es : List (ℕ × V)) → IsDistinct nat_eq (keys_of (e ∷ es)) → lookup (nat_eq e.0) es ≡ None
absent-after e es once = lookup-none (nat_eq e.0) es (none_passes e.0 es (IsDistinct-head nat_eq e.0 (keys_of es) once))

pub absent-same : {V : Type 0} (c : ℕ) (e : ℕ × V) (es : List (ℕ × V)) → IsDistinct nat_eq (keys_of (e ∷ es)) → nat_eq c e.0 ≡ true → lookup (nat_eq c) es ≡ None
absent-same {V} c e es once same =
    let P : ℕ → Type 0 = λ k. lookup (nat_eq k) es ≡ None in
    subst P (sym (eqb-true c e.0 same)) (absent-after e es once)

pub lookup-here : {V : Type 0} (e : ℕ × V) (es : List (ℕ × V)) → lookup (nat_eq e.0) (e ∷ es) ≡ Some e.1
lookup-here e es = rw (eq-eqb e.0 e.0 refl) refl

pub lookup-later : {V : Type 0} (e : ℕ × V) (es : List (ℕ × V)) (k : ℕ) (v : V) → IsDistinct nat_eq (keys_of (e ∷ es)) → lookup (nat_eq k) es ≡ Some v → lookup (nat_eq k) (e ∷ es) ≡ Some v
lookup-later e es k v once there = elim (cases_Bool (nat_eq k e.0)) [
  | inl same ↦ absurd (none-some v (sym (absent-same k e es once same) ∙ there))
  | inr apart ↦ rw apart there
]

pub once-after : {V : Type 0} (e : ℕ × V) (es : List (ℕ × V)) → IsDistinct nat_eq (keys_of (e ∷ es)) → IsDistinct nat_eq (keys_of es)
once-after e es once = IsDistinct-tail nat_eq e.0 (keys_of es) once

-- ---- connections

pub has_connection-kept : (connections : List (ℕ × KeptConnection)) (c : ℕ) → list_any (λ (l : Connection). l.number == c) (map connection_of connections) ≡ is_some (lookup (nat_eq c) connections)
has_connection-kept [] c = refl
has_connection-kept (e ∷ es) c = grind (arith, nat_tests, has_connection-kept es c)

pub absent-connection : (connections : List (ℕ × KeptConnection)) (c : ℕ) → list_any (λ (l : Connection). l.number == c) (map connection_of connections) ≡ false → lookup (nat_eq c) connections ≡ None
absent-connection connections c closed =
    let none : is_some (lookup (nat_eq c) connections) ≡ false = sym (has_connection-kept connections c) ∙ closed in
    grind (arith, none)

pub open-absent : (connections : List (ℕ × KeptConnection)) (c : ℕ) → list_any (λ (l : Connection). l.number == c) (map connection_of connections) ≡ true → lookup (nat_eq c) connections ≡ None → ⊥
open-absent connections c opened absent =
    let there : is_some (lookup (nat_eq c) connections) ≡ true = sym (has_connection-kept connections c) ∙ opened in
    grind (arith, there, absent)

pub added-kept : {V W : Type 0} (f : ℕ × V → W) (old new : List (ℕ × V)) (e : ℕ × V) → new ≡ old ++ e ∷ [] → map f new ≡ map f old ++ f e ∷ []
added-kept f old new e is = rw is (map-append f old (e ∷ []))

abbrev pub heartbeat_at : ℕ → ℕ → Connection → Connection
heartbeat_at c now l = if l.number == c then record l { last_heartbeat_ms = now } else l

pub after_heartbeat-absent : (connections : List (ℕ × KeptConnection)) (c now : ℕ) → lookup (nat_eq c) connections ≡ None → map (heartbeat_at c now) (map connection_of connections) ≡ map connection_of connections
after_heartbeat-absent [] c now absent = refl
after_heartbeat-absent (e ∷ es) c now absent = grind (arith, nat_tests, after_heartbeat-absent es c now)

pub after_heartbeat-kept : (connections : List (ℕ × KeptConnection)) (c now : ℕ) (l : KeptConnection) → IsDistinct nat_eq (keys_of connections) → lookup (nat_eq c) connections ≡ Some l
    → map connection_of (set_value (nat_eq c) connections (record l { last_heartbeat_ms = now })) ≡ map (heartbeat_at c now) (map connection_of connections)
after_heartbeat-kept [] c now l once there = refl
after_heartbeat-kept (e ∷ es) c now l once there =
    elim (cases_Bool (nat_eq c e.0)) [
      | inl same ↦ grind (arith, nat_tests, same, after_heartbeat-absent es c now (absent-same c e es once same))
      | inr apart ↦
          let later : lookup (nat_eq c) es ≡ Some l = rw apart at there in
          grind (arith, nat_tests, apart, after_heartbeat-kept es c now l (once-after e es once) later)
    ]

-- whose session it has is not seen
pub tied-kept : (connections : List (ℕ × KeptConnection)) (c : ℕ) (l : KeptConnection) (session : Option ℕ) → lookup (nat_eq c) connections ≡ Some l
    → map connection_of (set_value (nat_eq c) connections (record l { session = session })) ≡ map connection_of connections
tied-kept [] c l session there = refl
tied-kept (e ∷ es) c l session there =
    elim (cases_Bool (nat_eq c e.0)) [
      | inl same ↦ grind (arith, same, there)
      | inr apart ↦
          let later : lookup (nat_eq c) es ≡ Some l = rw apart at there in
          grind (arith, apart, tied-kept es c l session later)
    ]

without-absent : (connections : List (ℕ × KeptConnection)) (c : ℕ) → lookup (nat_eq c) connections ≡ None → filter (λ (l : Connection). not (l.number == c)) (map connection_of connections) ≡ map connection_of connections
without-absent [] c absent = refl
without-absent (e ∷ es) c absent = grind (arith, nat_tests, without-absent es c)

pub without-kept : (connections : List (ℕ × KeptConnection)) (c : ℕ) → IsDistinct nat_eq (keys_of connections)
    → map connection_of (remove_entry (nat_eq c) connections) ≡ filter (λ (l : Connection). not (l.number == c)) (map connection_of connections)
without-kept [] c once = refl
without-kept (e ∷ es) c once =
    elim (cases_Bool (nat_eq c e.0)) [
      | inl same ↦ grind (arith, nat_tests, same, without-absent es c (absent-same c e es once same))
      | inr apart ↦ grind (arith, nat_tests, apart, without-kept es c (once-after e es once))
    ]

-- ---- sessions

pub on-conn : (h : KeptCondition) (c : ℕ) → is_on c (condition_of h) ≡ true → conn_of h ≡ Some c
on-conn (condition.Attached k) c on = ap Some (eqb-true k c on)
on-conn (condition.Detached since) c on = cc

pub conn-on : (h : KeptCondition) (c : ℕ) → conn_of h ≡ Some c → is_on c (condition_of h) ≡ true
conn-on (condition.Attached k) c is = eq-eqb k c (grind arith)
conn-on (condition.Detached since) c is = cc

pub conn_at-here : (e : ℕ × KeptSession) (es : List (ℕ × KeptSession)) → conn_at (e ∷ es) e.0 ≡ conn_of e.1.condition
conn_at-here e es = grind (arith, nat_tests)

pub conn_at-later : (e : ℕ × KeptSession) (es : List (ℕ × KeptSession)) (n c : ℕ) → IsDistinct nat_eq (keys_of (e ∷ es)) → conn_at es n ≡ Some c → conn_at (e ∷ es) n ≡ Some c
conn_at-later e es n c once is =
    elim (cases_Bool (nat_eq n e.0)) [
      | inl same ↦ absurd (grind (arith, absent-same n e es once same))
      | inr apart ↦ rw apart is
    ]

pub released-none : (es : List (ℕ × KeptSession)) (c : ℕ) (next : Condition) → IsDistinct nat_eq (keys_of es) → ((n : ℕ) → conn_at es n ≡ Some c → ⊥)
    → map (released c next) (map session_of es) ≡ map session_of es
released-none [] c next once off = refl
released-none (e ∷ es) c next once off =
    let rest : map (released c next) (map session_of es) ≡ map session_of es = released-none es c next (once-after e es once) (λ n is. off n (conn_at-later e es n c once is)) in
    elim (cases_Bool (is_on c (condition_of e.1.condition))) [
      | inl on ↦ absurd (off e.0 (conn_at-here e es ∙ on-conn e.1.condition c on))
      | inr apart ↦ grind (arith, apart, rest)
    ]

pub released-kept : (es : List (ℕ × KeptSession)) (c n : ℕ) (h : KeptCondition) (x : KeptSession) → IsDistinct nat_eq (keys_of es) → ((m : ℕ) → conn_at es m ≡ Some c → m ≡ n)
    → lookup (nat_eq n) es ≡ Some x → conn_of x.condition ≡ Some c
    → map session_of (set_value (nat_eq n) es (record x { condition = h })) ≡ map (released c (condition_of h)) (map session_of es)
released-kept [] c n h x once only there on = refl
released-kept (e ∷ es) c n h x once only there on =
    elim (cases_Bool (nat_eq n e.0)) [
      | inl same ↦
          let first : e.1 ≡ x = grind (arith, same, there) in
          let here : is_on c (condition_of e.1.condition) ≡ true = rw first (conn-on x.condition c on) in
          let none : (m : ℕ) → conn_at es m ≡ Some c → ⊥ =
          λ m is. let is_n : m ≡ n = only m (conn_at-later e es m c once is) in
          let absent : lookup (nat_eq n) es ≡ None = absent-same n e es once same in
          grind (arith, absent, is, is_n) in
          grind (arith, same, first, here, released-none es c (condition_of h) (once-after e es once) none)
      | inr apart ↦
          let later : lookup (nat_eq n) es ≡ Some x = rw apart at there in
          let off : is_on c (condition_of e.1.condition) ≡ false =
          false_from_ne_true (is_on c (condition_of e.1.condition))
          (λ on_c. let is_n : e.0 ≡ n = only e.0 (conn_at-here e es ∙ on-conn e.1.condition c on_c) in grind (arith, nat_tests, apart, is_n)) in
          grind (arith, apart, off, released-kept es c n h x (once-after e es once) (λ m is. only m (conn_at-later e es m c once is)) later on)
    ]

pub on-none : (es : List (ℕ × KeptSession)) (c : ℕ) → IsDistinct nat_eq (keys_of es) → ((n : ℕ) → conn_at es n ≡ Some c → ⊥)
    → find (λ (x : Session Replay). is_on c x.condition) (map session_of es) ≡ None
on-none [] c once off = refl
on-none (e ∷ es) c once off =
    let rest : find (λ (x : Session Replay). is_on c x.condition) (map session_of es) ≡ None = on-none es c (once-after e es once) (λ n is. off n (conn_at-later e es n c once is)) in
    elim (cases_Bool (is_on c (condition_of e.1.condition))) [
      | inl on ↦ absurd (off e.0 (conn_at-here e es ∙ on-conn e.1.condition c on))
      | inr apart ↦ rw apart rest
    ]

pub on-some : (es : List (ℕ × KeptSession)) (c n : ℕ) → conn_at es n ≡ Some c → is_some (find (λ (x : Session Replay). is_on c x.condition) (map session_of es)) ≡ true
on-some [] c n on = cc
on-some (e ∷ es) c n on =
    elim (cases_Bool (nat_eq n e.0)) [
      | inl same ↦
          let here : conn_of e.1.condition ≡ Some c = rw same at on in
          rw (conn-on e.1.condition c here) refl
      | inr apart ↦
          let later : conn_at es n ≡ Some c = rw apart at on in
          grind (arith, on-some es c n later)
    ]

pub number-on : (es : List (ℕ × KeptSession)) (c n : ℕ) → IsDistinct nat_eq (keys_of es) → ((m : ℕ) → conn_at es m ≡ Some c → m ≡ n) → conn_at es n ≡ Some c
    → option_map (λ (x : Session Replay). x.number) (find (λ (x : Session Replay). is_on c x.condition) (map session_of es)) ≡ Some n
number-on [] c n once only on = cc
number-on (e ∷ es) c n once only on =
    elim (cases_Bool (is_on c (condition_of e.1.condition))) [
      | inl here ↦ rw here (ap Some (only e.0 (conn_at-here e es ∙ on-conn e.1.condition c here)))
      | inr off ↦
          let later : conn_at es n ≡ Some c = elim (cases_Bool (nat_eq n e.0)) [
            | inl same ↦
                let own : conn_of e.1.condition ≡ Some c = rw same at on in
                absurd (grind (arith, conn-on e.1.condition c own, off))
            | inr apart ↦ rw apart at on
          ] in
          rw off (number-on es c n (once-after e es once) (λ m is. only m (conn_at-later e es m c once is)) later)
    ]

pub is_live-condition : (h : KeptCondition) → is_live (condition_of h) ≡ true
is_live-condition (condition.Attached conn) = refl
is_live-condition (condition.Detached since) = refl

pub live-kept : (es : List (ℕ × KeptSession)) → filter (λ (x : Session Replay). is_live x.condition) (map session_of es) ≡ map session_of es
live-kept [] = refl
live-kept (e ∷ es) = rw (is_live-condition e.1.condition) (ap (λ rest. session_of e ∷ rest) (live-kept es))
