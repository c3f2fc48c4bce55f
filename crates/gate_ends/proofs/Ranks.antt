-- Which of several faults a run answers.
use Rattle.std.proofs.Common.{◌≡◌, ◌⊎◌, ℕ, Bool, true, false, List, [], ◌∷◌, Option, Some, None, inl, inr, refl, sym}
use Rattle.std.specs.Prelude.{nat_lt, if◌then◌else◌}
use Rattle.std.specs.List.{fold}
use Rattle.std.proofs.lemmas.Option.{none-some}
use Rattle.gate_ends.specs.Ranks.{sooner_by}

-- one of these is the fault
abbrev pub AnyIs : {F : Type 0} → F → List (Option F) → Type 0
AnyIs f [] = ⊥
AnyIs f (o ∷ os) = (o ≡ Some f) ⊎ AnyIs f os

module _ {F : Type 0} (rank : F → ℕ) where
  -- which of two it is
  either : (a o : Option F) (f : F) → sooner_by rank a o ≡ Some f → (a ≡ Some f) ⊎ (o ≡ Some f)
  either None o f e = inr e
  either (Some x) None f e = inl e
  either (Some x) (Some y) f e = by_test (nat_lt (rank y) (rank x)) e
    where
      by_test : (b : Bool) → (if b then Some y else Some x) ≡ Some f → (Some x ≡ Some f) ⊎ (Some y ≡ Some f)
      by_test true e = inr e
      by_test false e = inl e

  pub first_is : (a : Option F) (os : List (Option F)) (f : F) → fold (sooner_by rank) a os ≡ Some f → (a ≡ Some f) ⊎ AnyIs f os
  first_is a [] f e = inl e
  first_is a (o ∷ os) f e = or_later (first_is (sooner_by rank a o) os f e)
    where
      or_this : (a ≡ Some f) ⊎ (o ≡ Some f) → (a ≡ Some f) ⊎ AnyIs f (o ∷ os)
      or_this (inl h) = inl h
      or_this (inr h) = inr (inl h)

      or_later : (sooner_by rank a o ≡ Some f) ⊎ AnyIs f os → (a ≡ Some f) ⊎ AnyIs f (o ∷ os)
      or_later (inl h) = or_this (either a o f h)
      or_later (inr h) = inr (inr h)

  -- none of two
  neither : (a o : Option F) → sooner_by rank a o ≡ None → a ≡ None
  neither None o e = refl
  neither (Some x) None e = absurd (none-some x (sym e))
  neither (Some x) (Some y) e = by_test (nat_lt (rank y) (rank x)) e
    where
      by_test : (b : Bool) → (if b then Some y else Some x) ≡ None → Some x ≡ None
      by_test true e = absurd (none-some y (sym e))
      by_test false e = absurd (none-some x (sym e))

  pub first_is_none : (a : Option F) (os : List (Option F)) → fold (sooner_by rank) a os ≡ None → a ≡ None
  first_is_none a [] e = e
  first_is_none a (o ∷ os) e = neither a o (first_is_none (sooner_by rank a o) os e)
