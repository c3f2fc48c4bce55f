-- The live session of a number.
use Rattle.std.proofs.Common.{◌≡◌, ℕ, zero, suc, slice_get, List, [], ◌∷◌, map, true, false, Bool, Some, None, is_some, refl, ap, ◌∙◌, arith, nat_eq, ◌==◌, ◌&&◌, inl, inr, eqb-true}
use Rattle.std.specs.Option.{option_map}
use Rattle.std.specs.List.{find, IsDistinct}
use Rattle.std.specs.Map.{lookup, keys_of, set_value}
use Rattle.std.proofs.lemmas.Bool.{cases_Bool}
use Rattle.std.proofs.lemmas.Bool.Decides.{nat_tests}
use Rattle.session_core.specs.declared.kept.Session.{Session as KeptSession}
use Rattle.replay_ring.specs.Replay.{Replay, pushed}
use Rattle.session_core.specs.State.{Session, is_live, session_number}
use Rattle.session_core.specs.Pushes.{further_if}
use Rattle.session_core.specs.Kept.{session_of}
use Rattle.session_core.proofs.Entries.{absent-same, once-after, is_live-condition}

abbrev pub at_number : ℕ → KeptSession → Session Replay
at_number n x = session_of (n, x)

abbrev pub is_numbered : ℕ → Session Replay → Bool
is_numbered n x = is_live x.condition && (x.number == n)

pub numbers-kept : (es : List (ℕ × KeptSession)) → map session_number (map session_of es) ≡ keys_of es
numbers-kept [] = refl
numbers-kept (e ∷ es) = ap (λ ns. e.0 ∷ ns) (numbers-kept es)

pub number-index : (es : List (ℕ × KeptSession)) (i : ℕ) → option_map session_number (slice_get (map session_of es) i) ≡ option_map (λ (e : ℕ × KeptSession). e.0) (slice_get es i)
number-index [] i = refl
number-index (e ∷ es) zero = refl
number-index (e ∷ es) (suc i) = number-index es i

numbered-here : (e : ℕ × KeptSession) (n : ℕ) → nat_eq n e.0 ≡ true → is_numbered n (session_of e) ≡ true
numbered-here e n same =
    let own : (e.0 == n) ≡ true = grind (arith, nat_tests, same) in
    rw (is_live-condition e.1.condition, own) refl

numbered-other : (e : ℕ × KeptSession) (n : ℕ) → nat_eq n e.0 ≡ false → is_numbered n (session_of e) ≡ false
numbered-other e n apart =
    let other : (e.0 == n) ≡ false = grind (arith, nat_tests, apart) in
    rw (is_live-condition e.1.condition, other) refl

pub numbered-kept : (es : List (ℕ × KeptSession)) (n : ℕ) → find (is_numbered n) (map session_of es) ≡ option_map (at_number n) (lookup (nat_eq n) es)
numbered-kept [] n = refl
numbered-kept (e ∷ es) n = elim (cases_Bool (nat_eq n e.0)) [
  | inl same ↦ let here : n ≡ e.0 = eqb-true n e.0 same in rw (numbered-here e n same, same, here) refl
  | inr apart ↦ rw (numbered-other e n apart, apart) (numbered-kept es n)
]

-- ---- one dispatch further

further-absent : (es : List (ℕ × KeptSession)) (n : ℕ) (text : List ℕ) → lookup (nat_eq n) es ≡ None → map (further_if n text) (map session_of es) ≡ map session_of es
further-absent [] n text absent = refl
further-absent (e ∷ es) n text absent = elim (cases_Bool (nat_eq n e.0)) [
  | inl same ↦ absurd (grind (arith, same, absent))
  | inr apart ↦ rw (numbered-other e n apart) (ap (λ xs. session_of e ∷ xs) (further-absent es n text (rw apart at absent)))
]

pub further-kept : (es : List (ℕ × KeptSession)) (n : ℕ) (text : List ℕ) (x : KeptSession) → IsDistinct nat_eq (keys_of es) → lookup (nat_eq n) es ≡ Some x
    → map session_of (set_value (nat_eq n) es (record x { sent = pushed x.sent text })) ≡ map (further_if n text) (map session_of es)
further-kept [] n text x once there = refl
further-kept (e ∷ es) n text x once there = elim (cases_Bool (nat_eq n e.0)) [
  | inl same ↦
      let first : e.1 ≡ x = grind (arith, same, there) in
      rw (numbered-here e n same, same, further-absent es n text (absent-same n e es once same), first) refl
  | inr apart ↦
      let later : lookup (nat_eq n) es ≡ Some x = rw apart at there in
      rw (numbered-other e n apart, apart) (ap (λ xs. session_of e ∷ xs) (further-kept es n text x (once-after e es once) later))
]

pub same-kept : (es : List (ℕ × KeptSession)) (n : ℕ) (x : KeptSession) → lookup (nat_eq n) es ≡ Some x → map session_of (set_value (nat_eq n) es x) ≡ map session_of es
same-kept [] n x there = refl
same-kept (e ∷ es) n x there = elim (cases_Bool (nat_eq n e.0)) [
  | inl same ↦ let first : e.1 ≡ x = grind (arith, same, there) in rw (same, first) refl
  | inr apart ↦ rw apart (ap (λ xs. session_of e ∷ xs) (same-kept es n x (rw apart at there)))
]

pub not-numbered : (es : List (ℕ × KeptSession)) (n : ℕ) → is_some (find (is_numbered n) (map session_of es)) ≡ true → lookup (nat_eq n) es ≡ None → ⊥
not-numbered es n there absent =
    let none : find (is_numbered n) (map session_of es) ≡ None = numbered-kept es n ∙ ap (option_map (at_number n)) absent in
    grind (arith, there, none)
