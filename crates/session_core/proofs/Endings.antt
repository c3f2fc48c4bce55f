-- Connections and sessions that end.
use Rattle.std.proofs.Common.{◌≡◌, ℕ, ◌+◌, List, [], ◌∷◌, ◌++◌, map, filter, not, true, false, Bool, cond, Option, Some, None, refl, sym, ap, subst, ◌∙◌, arith, nat_eq, inl, inr, drop, slice_get, zero, suc}
use Rattle.std.specs.Prelude.{flat_map, if◌then◌else◌}
use Rattle.std.specs.Option.{option_and_then, option_map}
use Rattle.std.specs.List.{IsDistinct}
use Rattle.std.specs.Map.{lookup, keys_of, remove_entry}
use Rattle.std.specs.Cmp.{nat_eq_equiv}
use Rattle.std.proofs.lemmas.Bool.{cases_Bool, false_from_ne_true}
use Rattle.std.proofs.lemmas.Bool.Decides.{nat_tests}
use Rattle.std.proofs.lemmas.Map.Entries.{option_filter, lookup-filter-values}
use Rattle.std.proofs.lemmas.Map.Made.{IsDistinct-keys_filter}
use Rattle.std.proofs.lemmas.Option.{none-some, slice_get-map}
use Rattle.session_core.specs.declared.kept.Connection.{Connection as KeptConnection}
use Rattle.session_core.specs.declared.kept.Session.{Session as KeptSession}
use Rattle.session_core.specs.declared.kept.Condition.{Condition as KeptCondition}
use Rattle.session_core.specs.declared.kept.Condition.TheVariants as condition
use Rattle.replay_ring.specs.Replay.{Replay}
use Rattle.session_core.specs.State.{Connection, Session, is_on}
use Rattle.session_core.specs.Ends.{is_overdue, left_of, kept_for}
use Rattle.session_core.specs.Kept.{condition_of, conn_of, connection_of, session_of, session_at, conn_at, IsKept, IsHeld, AreHeld}
use Rattle.session_core.proofs.Entries.{absent-same, once-after, on-conn, conn-on, conn_at-here, conn_at-later}
use Rattle.session_core.proofs.Sides.{only-kept, there-kept, on-kept}
use Rattle.session_core.proofs.Changes.{Agree-same, Agree-cut, IsSetAt, session_at-set, conn_at-set}

-- ---- a session ends with its connection

pub left-none : (es : List (ℕ × KeptSession)) (c : ℕ) → IsDistinct nat_eq (keys_of es) → ((n : ℕ) → conn_at es n ≡ Some c → ⊥)
    → flat_map (left_of (λ (x : Session Replay). []) c) (map session_of es) ≡ map session_of es
left-none [] c once off = refl
left-none (e ∷ es) c once off =
    let rest : flat_map (left_of (λ (x : Session Replay). []) c) (map session_of es) ≡ map session_of es = left-none es c (once-after e es once) (λ n is. off n (conn_at-later e es n c once is)) in
    elim (cases_Bool (is_on c (condition_of e.1.condition))) [
      | inl on ↦ absurd (off e.0 (conn_at-here e es ∙ on-conn e.1.condition c on))
      | inr apart ↦ rw (apart, rest) refl
    ]

pub left-kept : (es : List (ℕ × KeptSession)) (c n : ℕ) (x : KeptSession) → IsDistinct nat_eq (keys_of es) → ((m : ℕ) → conn_at es m ≡ Some c → m ≡ n)
    → lookup (nat_eq n) es ≡ Some x → conn_of x.condition ≡ Some c
    → map session_of (remove_entry (nat_eq n) es) ≡ flat_map (left_of (λ (x : Session Replay). []) c) (map session_of es)
left-kept [] c n x once only there on = refl
left-kept (e ∷ es) c n x once only there on =
    elim (cases_Bool (nat_eq n e.0)) [
      | inl same ↦
          let first : e.1 ≡ x = grind (arith, same, there) in
          let here : is_on c (condition_of e.1.condition) ≡ true = rw first (conn-on x.condition c on) in
          let none : (m : ℕ) → conn_at es m ≡ Some c → ⊥ =
          λ m is. let is_n : m ≡ n = only m (conn_at-later e es m c once is) in
          let absent : lookup (nat_eq n) es ≡ None = absent-same n e es once same in
          grind (arith, absent, is, is_n) in
          rw (same, here, left-none es c (once-after e es once) none) refl
      | inr apart ↦
          let later : lookup (nat_eq n) es ≡ Some x = rw apart at there in
          let off : is_on c (condition_of e.1.condition) ≡ false =
          false_from_ne_true (is_on c (condition_of e.1.condition))
          (λ on_c. let is_n : e.0 ≡ n = only e.0 (conn_at-here e es ∙ on-conn e.1.condition c on_c) in grind (arith, nat_tests, apart, is_n)) in
          rw (apart, off, left-kept es c n x (once-after e es once) (λ m is. only m (conn_at-later e es m c once is)) later on) refl
    ]

pub left-removed : (made : ℕ) (connections : List (ℕ × KeptConnection)) (es : List (ℕ × KeptSession)) → IsKept made connections es → (c n : ℕ) → session_at connections c ≡ Some n
    → map session_of (remove_entry (nat_eq n) es) ≡ flat_map (left_of (λ (x : Session Replay). []) c) (map session_of es)
left-removed made connections es kept c n is = by_found (lookup (nat_eq n) es) refl
  where
    by_found : (o : Option KeptSession) → lookup (nat_eq n) es ≡ o → map session_of (remove_entry (nat_eq n) es) ≡ flat_map (left_of (λ (x : Session Replay). []) c) (map session_of es)
    by_found None absent = absurd (there-kept made connections es kept c n is absent)
    by_found (Some x) there = left-kept es c n x kept.sessions_once (only-kept made connections es kept c n is) there (on-kept made connections es kept c n x is there)

abbrev absent : Option KeptSession
absent = None

none_either : (b : Bool) → cond b None None ≡ absent
none_either true = refl
none_either false = refl

pub IsKept-left : (made : ℕ) (connections connections' : List (ℕ × KeptConnection)) (old new : List (ℕ × KeptSession)) (c n : ℕ)
    → IsKept made connections old → session_at connections c ≡ Some n
    → IsDistinct nat_eq (keys_of connections') → IsSetAt c None connections connections'
    → IsDistinct nat_eq (keys_of new) → IsSetAt n None old new
    → IsKept made connections' new
IsKept-left made connections connections' old new c n kept on once is once' is' = record {
  connections_once = once;
  sessions_once = once';
  counted = λ m above. is' m ∙ (ap (λ o. cond (nat_eq n m) None o) (kept.counted m above) ∙ none_either (nat_eq n m));
  agree = Agree-cut (session_at connections) (conn_at old) (session_at connections') (conn_at new) c n kept.agree on
      (session_at-set connections connections' c None is) (conn_at-set old new n None is');
  small = kept.small;
}

-- ---- sessions that were left for too long

abbrev pub is_due : ℕ → KeptSession → Bool
is_due now x = not (is_overdue now (condition_of x.condition))

pub expired-kept : (es : List (ℕ × KeptSession)) (now : ℕ) → map session_of (filter (λ e. is_due now e.1) es) ≡ flat_map (kept_for (λ (x : Session Replay). []) now) (map session_of es)
expired-kept [] now = refl
expired-kept (e ∷ es) now = by_test (is_overdue now (condition_of e.1.condition)) (expired-kept es now)
  where
    by_test : (b : Bool) → map session_of (filter (λ e. is_due now e.1) es) ≡ flat_map (kept_for (λ (x : Session Replay). []) now) (map session_of es)
        → map session_of (if not b then e ∷ filter (λ e. is_due now e.1) es else filter (λ e. is_due now e.1) es)
        ≡ (if b then [] else session_of e ∷ []) ++ flat_map (kept_for (λ (x : Session Replay). []) now) (map session_of es)
    by_test true rest = rest
    by_test false rest = ap (λ xs. session_of e ∷ xs) rest

-- a session that ends so has no connection
off_due : (now : ℕ) (x : KeptSession) (h : KeptCondition) → x.condition ≡ h → is_due now x ≡ false → conn_of h ≡ None
off_due now x (condition.Attached conn) is none = absurd (grind (arith, is, none))
off_due now x (condition.Detached since) is none = refl

conn_due : (now : ℕ) (o : Option KeptSession) → option_and_then (λ (x : KeptSession). conn_of x.condition) (option_filter (is_due now) o) ≡ option_and_then (λ (x : KeptSession). conn_of x.condition) o
conn_due now None = refl
conn_due now (Some x) = elim (cases_Bool (is_due now x)) [
  | inl due ↦ rw due refl
  | inr none ↦ rw none (sym (off_due now x x.condition refl none))
]

pub IsKept-expired : (made now : ℕ) (connections : List (ℕ × KeptConnection)) (es : List (ℕ × KeptSession)) → IsKept made connections es → IsKept made connections (filter (λ e. is_due now e.1) es)
IsKept-expired made now connections es kept =
    let at : (n : ℕ) → lookup (nat_eq n) (filter (λ e. is_due now e.1) es) ≡ option_filter (is_due now) (lookup (nat_eq n) es) =
    λ n. lookup-filter-values nat_eq_equiv (is_due now) n es kept.sessions_once in
    record {
      connections_once = kept.connections_once;
      sessions_once = IsDistinct-keys_filter nat_eq (λ e. is_due now e.1) es kept.sessions_once;
      counted = λ m above. at m ∙ ap (option_filter (is_due now)) (kept.counted m above);
      agree = Agree-same (session_at connections) (conn_at es) (session_at connections) (conn_at (filter (λ e. is_due now e.1) es)) kept.agree
          (λ k. refl) (λ n. ap (option_and_then (λ (x : KeptSession). conn_of x.condition)) (at n) ∙ conn_due now (lookup (nat_eq n) es));
      small = kept.small;
    }

pub AreHeld-expired : (worker now : ℕ) (es : List (ℕ × KeptSession)) → IsDistinct nat_eq (keys_of es) → AreHeld worker es → AreHeld worker (filter (λ e. is_due now e.1) es)
AreHeld-expired worker now es once held n =
    subst (IsHeld worker n) (sym (lookup-filter-values nat_eq_equiv (is_due now) n es once)) (by_found (lookup (nat_eq n) es) (held n))
  where
    by_test : (x : KeptSession) (b : Bool) → IsHeld worker n (Some x) → IsHeld worker n (cond b (Some x) None)
    by_test x true own = own
    by_test x false own = tt

    by_found : (o : Option KeptSession) → IsHeld worker n o → IsHeld worker n (option_filter (is_due now) o)
    by_found None own = tt
    by_found (Some x) own = by_test x (is_due now x) own

-- ---- connections that pass a test, one after another

filter-step : (p : Connection → Bool) (ls : List Connection) (i : ℕ) (l : Connection) → slice_get ls i ≡ Some l
    → filter p (drop i ls) ≡ (if p l then l ∷ filter p (drop (suc i) ls) else filter p (drop (suc i) ls))
filter-step p [] i l at = absurd (none-some l at)
filter-step p (k ∷ ls) zero l at = let same : k ≡ l = cc in rw same refl
filter-step p (k ∷ ls) (suc i) l at = filter-step p ls i l at

pub filter-next : (p : Connection → Bool) (ls : List Connection) (i : ℕ) (l : Connection) → slice_get ls i ≡ Some l
    → filter p (drop i ls) ≡ (if p l then l ∷ filter p (drop (i + 1) ls) else filter p (drop (i + 1) ls))
filter-next p ls i l at =
    let one : i + 1 ≡ suc i = omega arith in
    rw one (filter-step p ls i l at)

pub connection-at : (connections : List (ℕ × KeptConnection)) (i k : ℕ) (l : KeptConnection) → slice_get connections i ≡ Some (k, l) → slice_get (map connection_of connections) i ≡ Some (connection_of (k, l))
connection-at connections i k l at = slice_get-map connection_of connections i ∙ ap (option_map connection_of) at
