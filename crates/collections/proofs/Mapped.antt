-- Lists that are mapped, filtered and put together again.
use Rattle.std.proofs.Common.{◌≡◌, ℕ, Bool, true, false, List, [], ◌∷◌, map, Option, Some, None, if◌then◌else◌, refl, sym, ap, ◌∙◌}
use Rattle.std.specs.Prelude.{◌==◌, filter, option_map, All, cond}
use Rattle.std.specs.List.{find, filter_map, cons_option}
use Rattle.std.proofs.lemmas.List.Elements.{All-head, All-tail}
use Rattle.collections.specs.ById.{find_id, put_all, IsById, or_else, keep_if}
use Rattle.collections.proofs.Finds.{same_by_id, find-put_all, find-filter, IsById-put_all, IsById-filter}

pub or_else-none : {T : Type 0} (o : Option T) → or_else o None ≡ o
or_else-none None = refl
or_else-none (Some x) = refl

module _ {T : Type 0} (key : T → ℕ) where
  -- an ascending list that is put together item by item
  pub put_all-nil : (xs : List T) → IsById key xs → put_all key [] xs ≡ xs
  put_all-nil xs h = same_by_id key _ _ (IsById-put_all key [] xs tt) h (λ id. find-put_all key id [] xs h ∙ or_else-none (find_id key id xs))

  -- two tests that agree on what is found
  pub filter-same : (p q : T → Bool) (xs : List T) → IsById key xs → ((id : ℕ) (x : T) → find_id key id xs ≡ Some x → p x ≡ q x) → filter p xs ≡ filter q xs
  filter-same p q xs h same =
      same_by_id key _ _ (IsById-filter key p xs h) (IsById-filter key q xs h)
      (λ id. find-filter key p id xs h ∙ (keeps id (find_id key id xs) (same id) ∙ sym (find-filter key q id xs h)))
    where
      keeps : (id : ℕ) (o : Option T) → ((x : T) → o ≡ Some x → p x ≡ q x) → keep_if p o ≡ keep_if q o
      keeps id None agree = refl
      keeps id (Some x) agree = ap (λ b. if b then Some x else None) (agree x refl)

module _ {T U : Type 0} (f : T → U) where
  -- a map that another takes back
  pub map-undone : (g : U → T) (xs : List T) → All (λ x. g (f x) ≡ x) xs → map g (map f xs) ≡ xs
  map-undone g [] h = refl
  map-undone g (x ∷ xs) h = let head : g (f x) ≡ x = All-head (λ x. g (f x) ≡ x) x xs h in let tail : map g (map f xs) ≡ xs = map-undone g xs (All-tail (λ x. g (f x) ≡ x) x xs h) in cc

  pub filter_map-undone : (g : U → Option T) → ((x : T) → g (f x) ≡ Some x) → (xs : List T) → filter_map g (map f xs) ≡ xs
  filter_map-undone g back [] = refl
  filter_map-undone g back (x ∷ xs) = ap (λ o. cons_option o (filter_map g (map f xs))) (back x) ∙ ap (λ ys. x ∷ ys) (filter_map-undone g back xs)

  pub filter_map-none : {V : Type 0} (g : U → Option V) → ((x : T) → g (f x) ≡ None) → (xs : List T) → filter_map g (map f xs) ≡ []
  filter_map-none g none [] = refl
  filter_map-none g none (x ∷ xs) = ap (λ o. cons_option o (filter_map g (map f xs))) (none x) ∙ filter_map-none g none xs

  pub map-after : {V : Type 0} (g : U → V) (h : T → V) → ((x : T) → g (f x) ≡ h x) → (xs : List T) → map g (map f xs) ≡ map h xs
  map-after g h same [] = refl
  map-after g h same (x ∷ xs) = let head : g (f x) ≡ h x = same x in let tail : map g (map f xs) ≡ map h xs = map-after g h same xs in cc

  -- a test that is true of all that another let through
  pub filter-mapped : (q : T → Bool) (p : U → Bool) → ((x : T) → q x ≡ true → p (f x) ≡ true) → (xs : List T) → filter p (map f (filter q xs)) ≡ map f (filter q xs)
  filter-mapped q p passes [] = refl
  filter-mapped q p passes (x ∷ xs) = by_test (q x) refl (filter-mapped q p passes xs)
    where
      by_test : (b : Bool) → q x ≡ b → filter p (map f (filter q xs)) ≡ map f (filter q xs) → filter p (map f (cond b (x ∷ filter q xs) (filter q xs))) ≡ map f (cond b (x ∷ filter q xs) (filter q xs))
      by_test true e rest = ap (λ b. cond b (f x ∷ filter p (map f (filter q xs))) (filter p (map f (filter q xs)))) (passes x e) ∙ ap (λ ys. f x ∷ ys) rest
      by_test false e rest = rest

  pub find-mapped : (key : T → ℕ) (as_key : U → ℕ) → ((x : T) → as_key (f x) ≡ key x) → (id : ℕ) (xs : List T) → find (λ y. as_key y == id) (map f xs) ≡ option_map f (find_id key id xs)
  find-mapped key as_key same id [] = refl
  find-mapped key as_key same id (x ∷ xs) = ap (λ k. cond (k == id) (Some (f x)) (find (λ y. as_key y == id) (map f xs))) (same x) ∙ by_test (key x == id) (find-mapped key as_key same id xs)
    where
      by_test : (b : Bool) → find (λ y. as_key y == id) (map f xs) ≡ option_map f (find_id key id xs) → cond b (Some (f x)) (find (λ y. as_key y == id) (map f xs)) ≡ option_map f (if b then Some x else find_id key id xs)
      by_test true rest = refl
      by_test false rest = rest

pub filter-all : {T : Type 0} (p : T → Bool) → ((x : T) → p x ≡ true) → (xs : List T) → filter p xs ≡ xs
filter-all p passes [] = refl
filter-all p passes (x ∷ xs) = ap (λ b. cond b (x ∷ filter p xs) (filter p xs)) (passes x) ∙ ap (λ ys. x ∷ ys) (filter-all p passes xs)
