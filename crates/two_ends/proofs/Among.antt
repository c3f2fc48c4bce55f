-- Sessions among those of a worker.
use Rattle.std.proofs.Common.{◌≡◌, ℕ, List, [], ◌∷◌, ◌++◌, Bool, true, false, Some, if◌then◌else◌, refl, sym, ap, subst, ◌∙◌, arith, ◌⊎◌, inl, inr}
use Rattle.std.specs.Prelude.{All, Contains}
use Rattle.std.specs.List.{find}
use Rattle.std.proofs.lemmas.Bool.{true≢false}
use Rattle.std.proofs.lemmas.List.Elements.{All-contains, Contains-append_right}
use Rattle.std.proofs.lemmas.Option.{same_Some}
use Rattle.session_core.specs.State.{Session, is_on}
use Rattle.world_law.specs.Sends.{AreOff, IsAlone}
use Rattle.world_law.specs.Sent.{Sent}

-- a session is one of these
abbrev pub IsAmong : Session Sent → List (Session Sent) → Type 0
IsAmong x [] = ⊥
IsAmong x (y ∷ ys) = (x ≡ y) ⊎ IsAmong x ys

pub among_contains : (x : Session Sent) (xs : List (Session Sent)) → IsAmong x xs → Contains xs x
among_contains x [] is = absurd is
among_contains x (y ∷ ys) (inl same) = (0, omega arith, sym same)
among_contains x (y ∷ ys) (inr later) = Contains-append_right (y ∷ []) ys x (among_contains x ys later)

pub among_here : (x : Session Sent) (front back : List (Session Sent)) → IsAmong x (front ++ x ∷ back)
among_here x [] back = inl refl
among_here x (y ∷ front) back = inr (among_here x front back)

pub among_part : (x : Session Sent) (xs ys : List (Session Sent)) → IsAmong x (xs ++ ys) → IsAmong x xs ⊎ IsAmong x ys
among_part x [] ys among = inr among
among_part x (y ∷ xs) ys (inl same) = inl (inl same)
among_part x (y ∷ xs) ys (inr later) = elim (among_part x xs ys later) [
  | inl here ↦ inl (inr here)
  | inr there ↦ inr there
]

pub all_among : (P : Session Sent → Type 0) (x : Session Sent) (xs : List (Session Sent)) → All P xs → IsAmong x xs → P x
all_among P x xs all is = All-contains P xs x all (among_contains x xs is)

pub found_among : (p : Session Sent → Bool) (xs : List (Session Sent)) (x : Session Sent) → find p xs ≡ Some x → IsAmong x xs
found_among p [] x found = absurd (cc found)
found_among p (y ∷ ys) x found = by_test (p y) found (found_among p ys x)
  where
    by_test : (b : Bool) → (if b then Some y else find p ys) ≡ Some x → (find p ys ≡ Some x → IsAmong x ys) → IsAmong x (y ∷ ys)
    by_test true here later = inl (sym (same_Some y x here))
    by_test false there later = inr (later there)

-- ---- sessions on a connection

pub off_among : (conn : ℕ) (x : Session Sent) (xs : List (Session Sent)) → AreOff conn xs → IsAmong x xs → is_on conn x.condition ≡ false
off_among conn x [] off is = absurd is
off_among conn x (y ∷ ys) off (inl same) = subst (λ (z : Session Sent). is_on conn z.condition ≡ false) (sym same) off.0
off_among conn x (y ∷ ys) off (inr later) = off_among conn x ys off.1 later

-- at most one session has a connection
pub one_on : (conn : ℕ) (xs : List (Session Sent)) (x y : Session Sent) → IsAlone conn xs → IsAmong x xs → IsAmong y xs → is_on conn x.condition ≡ true → is_on conn y.condition ≡ true → y ≡ x
one_on conn [] x y alone here there on also = absurd here
one_on conn (z ∷ zs) x y alone here there on also = elim here [
  | inl same ↦ elim there [
    | inl other ↦ other ∙ sym same
    | inr later ↦ absurd (true≢false (sym also ∙ off_among conn y zs (alone.0 (ap (λ (x : Session Sent). is_on conn x.condition) (sym same) ∙ on)) later))
  ]
  | inr later ↦ elim there [
    | inl same ↦ absurd (true≢false (sym on ∙ off_among conn x zs (alone.0 (ap (λ (x : Session Sent). is_on conn x.condition) (sym same) ∙ also)) later))
    | inr among ↦ one_on conn zs x y alone.1 later among on also
  ]
]
