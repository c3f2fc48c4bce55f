-- A fact of each view, by its number and its view, after a change of one view or with a new one.
use Rattle.std.proofs.Common.{◌≡◌, ◌≢◌, ◌⊎◌, ℕ, zero, suc, ◌==◌, Bool, true, false, true≢false, cond, List, [], ◌∷◌, ◌++◌, length, set, sym, ap, ◌∙◌, subst, inl, inr, refl, ⊎_elim}
use Rattle.std.proofs.lemmas.Bool.Decides.{Decides-eqb, eqb_tells}
use mathlib.Core.Option.{some, some-injective, some-ne-none}
use lib.ListN.{get_elem?}
use Rattle.atomic_table.proofs.Lists.{at_set}

module _ {V : Type 0} where
  abbrev pub Each : (ℕ → V → Type 0) → List V → Type 0
  Each F views = (j : ℕ) (v : V) → get_elem? views j ≡ some v → F j v

  pub each_none : (F : ℕ → V → Type 0) → Each F []
  each_none F j v e = absurd (some-ne-none v (sym e))

  pub each_set : (F : ℕ → V → Type 0) (views : List V) (j : ℕ) (w : V) → F j w → ((k : ℕ) (u : V) → k ≢ j → get_elem? views k ≡ some u → F k u) → Each F (set views j w)
  each_set F views j w mine others k u e =
      ⊎_elim (λ (x : (k ≡ j) × (w ≡ u)). subst (λ (y : ℕ × V). F y.0 y.1) (λ i. (sym x.0 i, x.1 i)) mine) (λ (x : (k ≢ j) × (get_elem? views k ≡ some u)). others k u x.0 x.1)
      (at_set views j k w u e)

  pub at_end : (l : List V) (a b : V) (j : ℕ) → get_elem? (l ++ a ∷ []) j ≡ some b → (get_elem? l j ≡ some b) ⊎ ((j ≡ length l) × (a ≡ b))
  at_end [] a b zero e = inr (refl, some-injective a b e)
  at_end [] a b (suc j) e = absurd (some-ne-none b (sym e))
  at_end (x ∷ xs) a b zero e = inl e
  at_end (x ∷ xs) a b (suc j) e = ⊎_elim (λ t. inl t) (λ t. inr (ap suc t.0, t.1)) (at_end xs a b j e)

  pub each_snoc : (F : ℕ → V → Type 0) (views : List V) (w : V) → F (length views) w → Each F views → Each F (views ++ w ∷ [])
  each_snoc F views w new old j u e =
      ⊎_elim (λ (t : get_elem? views j ≡ some u). old j u t) (λ (t : (j ≡ length views) × (w ≡ u)). subst (λ (y : ℕ × V). F y.0 y.1) (λ i. (sym t.0 i, t.1 i)) new) (at_end views w u j e)

  pub set_same : (views : List V) (j : ℕ) (w u : V) → get_elem? views j ≡ some u → get_elem? (set views j w) j ≡ some w
  set_same [] j w u e = absurd (some-ne-none u (sym e))
  set_same (x ∷ xs) zero w u e = refl
  set_same (x ∷ xs) (suc j) w u e = set_same xs j w u e

  pub unset : (views : List V) (j k : ℕ) (w u : V) → ¬ (k ≡ j) → get_elem? (set views j w) k ≡ some u → get_elem? views k ≡ some u
  unset views j k w u far e = ⊎_elim (λ x. absurd (far x.0)) (λ x. x.1) (at_set views j k w u e)

pub no : {P : Type 0} {b : Bool} → b ≡ false → b ≡ true → P
no f t = absurd (true≢false (sym t ∙ f))

pub at_new : (p made : ℕ) (new old : ℕ) → p ≡ made → cond (p == made) new old ≡ new
at_new p made new old e = ap (λ c. cond c new old) ((Decides-eqb p made).1 e)

pub at_old : (p made : ℕ) (new old : ℕ) → p ≢ made → cond (p == made) new old ≡ old
at_old p made new old n = ap (λ c. cond c new old) (⊎_elim (λ t. absurd (n t.1)) (λ t. t.0) (eqb_tells p made))
