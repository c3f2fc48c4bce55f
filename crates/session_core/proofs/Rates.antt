-- The frames of a connection.
use Rattle.std.specs.Prelude.{if◌then◌else◌}
use Rattle.std.proofs.Common.{◌≡◌, ℕ, ◌+◌, List, [], ◌∷◌, Bool, map, true, false, cond, Some, None, refl, sym, arith, nat_eq, ◌==◌, ◌&&◌, ◌||◌, nat_lt, length, slice_get, inl, inr}
use Rattle.std.specs.List.{list_any, IsDistinct}
use Rattle.std.specs.Map.{lookup, keys_of, set_value}
use Rattle.std.proofs.lemmas.Bool.{cases_Bool}
use Rattle.std.proofs.lemmas.Bool.Decides.{nat_tests}
use Rattle.std.proofs.lemmas.Option.{none-some, same_Some}
use Rattle.session_core.specs.declared.kept.Connection.{Connection as KeptConnection}
use Rattle.session_core.specs.declared.kept.Session.{Session as KeptSession}
use Rattle.session_core.specs.State.{Connection}
use Rattle.session_core.specs.Rate.{with_time, is_crowded}
use Rattle.session_core.specs.Kept.{connection_of, IsKept}
use Rattle.session_core.proofs.Entries.{absent-same, once-after}
use Rattle.session_core.proofs.Changes.{IsSetAt, IsKept-connection}

pub crowded_is : (ts : List ℕ) (now first : ℕ) → slice_get ts 0 ≡ Some first → is_crowded now ts ≡ ((length ts == 120) && nat_lt now (first + 60000))
crowded_is [] now first at = absurd (none-some first at)
crowded_is (t ∷ ts) now first at =
    let same : t ≡ first = cc in
    let count : (length ts == 119) ≡ (length (t ∷ ts) == 120) = grind (arith, nat_tests) in
    rw (same, count) refl

pub crowded_none : (ts : List ℕ) (now : ℕ) → slice_get ts 0 ≡ None → is_crowded now ts ≡ false
crowded_none [] now none = refl
crowded_none (t ∷ ts) now none = absurd (none-some t (sym none))

-- ---- whether there were too many

rated-none : (connections : List (ℕ × KeptConnection)) (c now : ℕ) → lookup (nat_eq c) connections ≡ None → list_any (λ (l : Connection). (l.number == c) && is_crowded now l.times) (map connection_of connections) ≡ false
rated-none [] c now absent = refl
rated-none (e ∷ es) c now absent = grind (arith, nat_tests, rated-none es c now)

pub rated-absent : (connections : List (ℕ × KeptConnection)) (c now : ℕ) → lookup (nat_eq c) connections ≡ None → list_any (λ (l : Connection). (l.number == c) && is_crowded now l.times) (map connection_of connections) ≡ false
rated-absent connections c now absent = rated-none connections c now absent

abbrev any_rated : List (ℕ × KeptConnection) → ℕ → ℕ → Bool
any_rated connections c now = list_any (λ (l : Connection). (l.number == c) && is_crowded now l.times) (map connection_of connections)

or_none : (b : Bool) → (b || false) ≡ b
or_none true = refl
or_none false = refl

pub rated-kept : (connections : List (ℕ × KeptConnection)) (c now : ℕ) (l : KeptConnection) → IsDistinct nat_eq (keys_of connections) → lookup (nat_eq c) connections ≡ Some l
    → any_rated connections c now ≡ is_crowded now l.times
rated-kept [] c now l once there = absurd (none-some l there)
rated-kept (e ∷ es) c now l once there = by_number (nat_eq c e.0) refl there (λ later. rated-kept es c now l (once-after e es once) later)
  where
    by_number : (b : Bool) → nat_eq c e.0 ≡ b → cond b (Some e.1) (lookup (nat_eq c) es) ≡ Some l → (lookup (nat_eq c) es ≡ Some l → any_rated es c now ≡ is_crowded now l.times)
        → any_rated (e ∷ es) c now ≡ is_crowded now l.times
    by_number true same there rest =
        let first : e.1 ≡ l = same_Some e.1 l there in
        let own : (e.0 == c) ≡ true = grind (arith, nat_tests, same) in
        let none : any_rated es c now ≡ false = rated-none es c now (absent-same c e es once same) in
        rw (own, none, first) (or_none (is_crowded now l.times))
    by_number false apart there rest =
        let other : (e.0 == c) ≡ false = grind (arith, nat_tests, apart) in
        rw other (rest there)

-- ---- a frame has come

abbrev pub counted_at : ℕ → ℕ → Connection → Connection
counted_at c now l = if l.number == c then record l { times = with_time now l.times } else l

abbrev pub counted_connection : KeptConnection → ℕ → KeptConnection
counted_connection l now = record l { times = with_time now l.times }

pub frame_counted-absent : (connections : List (ℕ × KeptConnection)) (c now : ℕ) → lookup (nat_eq c) connections ≡ None → map (counted_at c now) (map connection_of connections) ≡ map connection_of connections
frame_counted-absent [] c now absent = refl
frame_counted-absent (e ∷ es) c now absent = grind (arith, nat_tests, frame_counted-absent es c now)

pub frame_counted-kept : (connections : List (ℕ × KeptConnection)) (c now : ℕ) (l : KeptConnection) → IsDistinct nat_eq (keys_of connections) → lookup (nat_eq c) connections ≡ Some l
    → map connection_of (set_value (nat_eq c) connections (counted_connection l now)) ≡ map (counted_at c now) (map connection_of connections)
frame_counted-kept [] c now l once there = refl
frame_counted-kept (e ∷ es) c now l once there =
    elim (cases_Bool (nat_eq c e.0)) [
      | inl same ↦ grind (arith, nat_tests, same, frame_counted-absent es c now (absent-same c e es once same))
      | inr apart ↦
          let later : lookup (nat_eq c) es ≡ Some l = rw apart at there in
          grind (arith, nat_tests, apart, frame_counted-kept es c now l (once-after e es once) later)
    ]

pub IsKept-frame_counted : (made : ℕ) (old new : List (ℕ × KeptConnection)) (sessions : List (ℕ × KeptSession)) (c now : ℕ) (l : KeptConnection)
    → IsKept made old sessions → lookup (nat_eq c) old ≡ Some l → IsDistinct nat_eq (keys_of new) → IsSetAt c (Some (counted_connection l now)) old new
    → IsKept made new sessions
IsKept-frame_counted made old new sessions c now l kept there once is =
    IsKept-connection made old new sessions c (Some (counted_connection l now)) kept once is (rw there refl)
