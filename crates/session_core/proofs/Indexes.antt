-- Sessions by their indexes.
use Rattle.std.proofs.Common.{◌≡◌, ℕ, zero, suc, List, [], ◌∷◌, map, Some, slice_get, slice_set, subst, refl, sym, ap, ◌∙◌, nat_eq}
use Rattle.std.specs.Option.{option_map}
use Rattle.std.specs.List.{IsDistinct}
use Rattle.std.proofs.lemmas.Map.Entries.{lookup_from_place}
use Rattle.std.specs.Map.{keys_of}
use Rattle.indexmap.specs.IndexMap.{set_value_at}
use Rattle.indexmap.specs.IndexMap.{IndexMap}
use Rattle.std.specs.Map.{lookup}
use Rattle.std.specs.Cmp.{nat_eq_equiv}
use Rattle.std.proofs.lemmas.Option.{none-some, same_Some, slice_get-map}
use Rattle.indexmap.proofs.CallerLemmas.{updates-with_value_at, keys-with_value_at}
use Rattle.session_core.specs.declared.kept.Connection.{Connection as KeptConnection}
use Rattle.session_core.specs.declared.kept.Session.{Session as KeptSession}
use Rattle.session_core.specs.declared.kept.Condition.{Condition as KeptCondition}
use Rattle.session_core.specs.declared.kept.Condition.TheVariants as condition
use Rattle.session_core.specs.State.{attached}
use Rattle.session_core.specs.Kept.{session_of, condition_of, conn_of, IsKept, AreHeld}
use Rattle.session_core.proofs.Changes.{IsKept-session}
use Rattle.session_core.proofs.Held.{AreHeld-set, held-at}

pub set-same : (es : List (ℕ × KeptSession)) (i k : ℕ) (x : KeptSession) → slice_get es i ≡ Some (k, x) → set_value_at es i x ≡ es
set-same [] i k x at = refl
set-same (e ∷ es) zero k x at = let same : e ≡ (k, x) = same_Some e (k, x) at in rw same refl
set-same (e ∷ es) (suc i) k x at = ap (λ rest. e ∷ rest) (set-same es i k x at)

pub set-kept : (es : List (ℕ × KeptSession)) (i k : ℕ) (x y : KeptSession) → slice_get es i ≡ Some (k, x) → map session_of (set_value_at es i y) ≡ slice_set (map session_of es) i (session_of (k, y))
set-kept [] i k x y at = absurd (none-some (k, x) at)
set-kept (e ∷ es) zero k x y at = let same : e ≡ (k, x) = same_Some e (k, x) at in rw same refl
set-kept (e ∷ es) (suc i) k x y at = ap (λ rest. session_of e ∷ rest) (set-kept es i k x y at)

pub at-kept : (es : List (ℕ × KeptSession)) (i k : ℕ) (x : KeptSession) → slice_get es i ≡ Some (k, x) → slice_get (map session_of es) i ≡ Some (session_of (k, x))
at-kept es i k x at = slice_get-map session_of es i ∙ ap (option_map session_of) at

-- a session with another count has its condition and its number
pub IsKept-counted : {S : Type 0} (made : ℕ) (connections : List (ℕ × KeptConnection)) (old : IndexMap ℕ KeptSession S) (i k : ℕ) (x y : KeptSession) → IsKept made connections old.entries
    → slice_get old.entries i ≡ Some (k, x) → y.condition ≡ x.condition → IsKept made connections (set_value_at old.entries i y)
IsKept-counted made connections old i k x y kept at same =
    let new = updates-with_value_at old i y nat_eq_equiv kept.sessions_once k x at in
    let there : lookup (nat_eq k) old.entries ≡ Some x = lookup_from_place nat_eq_equiv old.entries i k x kept.sessions_once at in
    let P : List ℕ → Type 0 = IsDistinct nat_eq in
    let once : IsDistinct nat_eq (keys_of (set_value_at old.entries i y)) = subst P (sym (keys-with_value_at old i y)) kept.sessions_once in
    IsKept-session made connections old.entries (set_value_at old.entries i y) k y kept once new.0 (rw there refl) (rw (there, same) refl)

-- and is for whom it was
pub AreHeld-counted : {S : Type 0} (worker : ℕ) (old : IndexMap ℕ KeptSession S) (i k : ℕ) (x y : KeptSession) → IsDistinct nat_eq (keys_of old.entries) → AreHeld worker old.entries
    → slice_get old.entries i ≡ Some (k, x) → y.holder ≡ x.holder → y.viewer ≡ x.viewer → AreHeld worker (set_value_at old.entries i y)
AreHeld-counted worker old i k x y once held at same viewed =
    let new = updates-with_value_at old i y nat_eq_equiv once k x at in
    let there : lookup (nat_eq k) old.entries ≡ Some x = lookup_from_place nat_eq_equiv old.entries i k x once at in
    AreHeld-set worker old.entries (set_value_at old.entries i y) k (Some y) held new.0 (rw (same, viewed) (held-at worker old.entries k x held there))

pub attached-kept : (h : KeptCondition) → attached (condition_of h) ≡ conn_of h
attached-kept (condition.Attached conn) = refl
attached-kept (condition.Detached since) = refl
