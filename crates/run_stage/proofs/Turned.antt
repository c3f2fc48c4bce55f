-- A list whose items go one by one from its front to its end, and change on the way.
use Rattle.std.proofs.Common.{◌≡◌, ℕ, zero, suc, List, [], ◌∷◌, ◌++◌, length, sym, subst, arith}
use Rattle.std.specs.Prelude.{All}
use Rattle.std.proofs.lemmas.List.Elements.{All-head, All-tail, All-push}

-- so many items at the front are still as they were, and those behind them have changed
abbrev pub Turns : {X : Type 0} → (X → Type 0) → (X → Type 0) → ℕ → List X → Type 0
Turns Was Is zero xs = All Is xs
Turns Was Is (suc n) [] = ⊥
Turns Was Is (suc n) (x ∷ xs) = Was x × Turns Was Is n xs

module _ {X : Type 0} (Was Is : X → Type 0) where
  none_turned : (n : ℕ) (xs : List X) → n ≡ length xs → All Was xs → ((ys : List X) → length ys ≡ 0 → All Is ys) → Turns Was Is n xs
  none_turned zero xs long all none = none xs (sym long)
  none_turned (suc n) [] long all none = absurd (omega arith)
  none_turned (suc n) (x ∷ xs) long all none = (All-head Was x xs all, none_turned n xs (omega arith) (All-tail Was x xs all) none)

  -- no item has changed yet
  pub begun : (n : ℕ) (xs : List X) → n ≡ length xs → All Was xs → Turns Was Is n xs
  begun n xs long all = none_turned n xs long all (λ ys none k d lt. absurd (omega (arith, none, lt)))

  one_turned : (n : ℕ) (xs : List X) (y : X) → Turns Was Is n xs → Is y → Turns Was Is n (xs ++ y ∷ [])
  one_turned zero xs y turns is = All-push Is xs y turns is
  one_turned (suc n) [] y turns is = absurd turns
  one_turned (suc n) (x ∷ xs) y turns is = (turns.0, one_turned n xs y turns.1 is)

  -- the item at the front, which is as it was, changes and goes to the end
  pub turned : (n : ℕ) (xs left more : List X) (x y : X) → Turns Was Is (suc n) xs → xs ≡ x ∷ left → more ≡ left ++ y ∷ [] → (Was x → Is y) → Turns Was Is n more
  turned n xs left more x y turns front behind changes =
      let here : Turns Was Is (suc n) (x ∷ left) = subst (Turns Was Is (suc n)) front turns in
      subst (Turns Was Is n) (sym behind) (one_turned n left y here.1 (changes here.0))
