-- Taking a record away, and changing all of them one by one.
use Rattle.std.proofs.Common.{◌≡◌, ℕ, zero, suc, ◌<◌, ◌≤◌, List, [], ◌∷◌, ◌++◌, map, take, drop, length, get_or, set, refl, ap, arith, inl, inr}
use Rattle.std.specs.List.{remove}
use Rattle.std.proofs.lemmas.Bool.{cases_lt}
use Rattle.std.proofs.lemmas.Bool.Decides.{nat_tests}
use Rattle.collections.specs.ById.{AllAbove, IsById, count_below, without_id}

module _ {T : Type 0} (key : T → ℕ) where
  without_above : (id k : ℕ) (xs : List T) → id ≤ k → AllAbove key k xs → xs ≡ without_id key id xs
  without_above id k [] le h = refl
  without_above id k (x ∷ xs) le h = grind (arith, nat_tests, h.0, without_above id k xs le h.1)

  -- the one with the id is taken out of its place
  pub removed_here : (id : ℕ) (xs : List T) (i : ℕ) (d : T) → IsById key xs → i ≡ count_below key id xs → i < length xs → key (get_or xs i d) ≡ id → remove xs i ≡ without_id key id xs
  removed_here id [] i d h e lt k = absurd (omega arith)
  removed_here id (x ∷ xs) zero d h e lt k = grind (arith, nat_tests, without_above id (key x) xs (omega arith) h.0)
  removed_here id (x ∷ xs) (suc i) d h e lt k = elim (cases_lt (key x) id) [
    | inl below ↦ (let c : i ≡ count_below key id xs = grind (arith, nat_tests) in grind (arith, nat_tests, removed_here id xs i d h.1 c (omega arith) k))
    | inr ge ↦ absurd (grind (arith, nat_tests))
  ]

  -- no record has the id
  pub not_there : (id : ℕ) (xs : List T) (i : ℕ) → IsById key xs → i ≡ count_below key id xs → ((d : T) → i < length xs → key (get_or xs i d) ≡ id → ⊥) → xs ≡ without_id key id xs
  not_there id [] i h e none = refl
  not_there id (x ∷ xs) zero h e none = elim (cases_lt (key x) id) [
    | inl below ↦ absurd (grind (arith, nat_tests))
    | inr ge ↦ (let ne : key x ≡ id → ⊥ = none x (omega arith) in grind (arith, nat_tests, without_above id (key x) xs ge h.0))
  ]
  not_there id (x ∷ xs) (suc i) h e none = elim (cases_lt (key x) id) [
    | inl below ↦ (let c : i ≡ count_below key id xs = grind (arith, nat_tests) in grind (arith, nat_tests, not_there id xs i h.1 c (λ d lt k. none d (omega arith) k)))
    | inr ge ↦ absurd (grind (arith, nat_tests))
  ]

-- the first records are changed, the others not yet
abbrev pub changed_front : {T : Type 0} → (T → T) → ℕ → List T → List T
changed_front f n xs = map f (take n xs) ++ drop n xs

pub one_more_changed : {T : Type 0} (f : T → T) (xs : List T) (i n : ℕ) (d y : T) → n ≡ suc i → i < length xs → y ≡ f (get_or (changed_front f i xs) i d) → set (changed_front f i xs) i y ≡ changed_front f n xs
one_more_changed f [] i n d y e lt w = absurd (omega arith)
one_more_changed f (x ∷ xs) zero n d y e lt w = rw (e, w) refl
one_more_changed f (x ∷ xs) (suc i) n d y e lt w = rw e (ap (λ ys. f x ∷ ys) (one_more_changed f xs i (suc i) d y refl (omega arith) w))
