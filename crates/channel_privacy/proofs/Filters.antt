-- Filters in either order.
use Rattle.std.proofs.Common.{◌≡◌, ℕ, ◌≤◌, Bool, true, false, ◌||◌, List, [], ◌∷◌, map, Option, Some, None, if◌then◌else◌, refl, sym, ap, subst, ◌∙◌, eq-eqb, arith}
use Rattle.std.specs.Prelude.{◌==◌, ◌&&◌, All, not, filter, cond, is_some}
use Rattle.std.proofs.lemmas.List.Elements.{All-nil, All-cons, All-head, All-tail, All-weaker}
use Rattle.std.proofs.lemmas.Bool.{eqb-true}
use Rattle.std.proofs.lemmas.Bool.Decides.{nat_tests}
use Rattle.collections.specs.ById.{find_id, has_id, put_id, put_all, without_id, keep_if, or_else, IsById}
use Rattle.collections.proofs.Ids.{IsById-put, find_above}
use Rattle.collections.proofs.Finds.{same_by_id, key-found, find-put, find-without, find-filter, find-put_all, IsById-filter, IsById-put_all}

-- where the test of the one is the test of another on what the first lets through
pub filter-either : {T : Type 0} (p q r : T → Bool) → ((x : T) → p x ≡ true → q x ≡ r x) → (xs : List T) → filter p (filter q xs) ≡ filter r (filter p xs)
filter-either p q r same [] = refl
filter-either p q r same (x ∷ xs) = by_tests (p x) (q x) refl refl (filter-either p q r same xs)
  where
    by_tests : (a b : Bool) → p x ≡ a → q x ≡ b → filter p (filter q xs) ≡ filter r (filter p xs)
        → filter p (cond b (x ∷ filter q xs) (filter q xs)) ≡ filter r (cond a (x ∷ filter p xs) (filter p xs))
    by_tests true true e f rest =
        ap (λ b. cond b (x ∷ filter p (filter q xs)) (filter p (filter q xs))) e
        ∙ (ap (λ ys. x ∷ ys) rest
        ∙ sym (ap (λ b. cond b (x ∷ filter r (filter p xs)) (filter r (filter p xs))) (sym (same x e) ∙ f)))
    by_tests true false e f rest =
        rest ∙ sym (ap (λ b. cond b (x ∷ filter r (filter p xs)) (filter r (filter p xs))) (sym (same x e) ∙ f))
    by_tests false true e f rest = ap (λ b. cond b (x ∷ filter p (filter q xs)) (filter p (filter q xs))) e ∙ rest
    by_tests false false e f rest = rest

pub filter-swaps : {T : Type 0} (p q : T → Bool) (xs : List T) → filter p (filter q xs) ≡ filter q (filter p xs)
filter-swaps p q xs = filter-either p q q (λ x e. refl) xs

-- one test after another
pub filter-both : {T : Type 0} (p q : T → Bool) (xs : List T) → filter p (filter q xs) ≡ filter (λ x. q x && p x) xs
filter-both p q [] = refl
filter-both p q (x ∷ xs) = by_test (q x) (filter-both p q xs)
  where
    by_test : (b : Bool) → filter p (filter q xs) ≡ filter (λ x. q x && p x) xs
        → filter p (cond b (x ∷ filter q xs) (filter q xs)) ≡ cond (b && p x) (x ∷ filter (λ x. q x && p x) xs) (filter (λ x. q x && p x) xs)
    by_test true rest = ap (λ ys. cond (p x) (x ∷ ys) ys) rest
    by_test false rest = rest

-- tests that say the same of these
pub filter-alike_in : {T : Type 0} (p q : T → Bool) (xs : List T) → All (λ x. p x ≡ q x) xs → filter p xs ≡ filter q xs
filter-alike_in p q [] same = refl
filter-alike_in p q (x ∷ xs) same =
    ap (λ b. cond b (x ∷ filter p xs) (filter p xs)) (All-head (λ x. p x ≡ q x) x xs same)
    ∙ ap (λ ys. cond (q x) (x ∷ ys) ys) (filter-alike_in p q xs (All-tail (λ x. p x ≡ q x) x xs same))

-- a change that the test does not see
pub filter-changed : {T : Type 0} (p : T → Bool) (f : T → T) → ((x : T) → p (f x) ≡ p x) → (xs : List T) → filter p (map f xs) ≡ map f (filter p xs)
filter-changed p f same [] = refl
filter-changed p f same (x ∷ xs) = by_test (p x) refl (filter-changed p f same xs)
  where
    by_test : (b : Bool) → p x ≡ b → filter p (map f xs) ≡ map f (filter p xs) → filter p (f x ∷ map f xs) ≡ map f (cond b (x ∷ filter p xs) (filter p xs))
    by_test true e rest = ap (λ b. cond b (f x ∷ filter p (map f xs)) (filter p (map f xs))) (same x ∙ e) ∙ ap (λ ys. f x ∷ ys) rest
    by_test false e rest = ap (λ b. cond b (f x ∷ filter p (map f xs)) (filter p (map f xs))) (same x ∙ e) ∙ rest

module _ {T : Type 0} (key : T → ℕ) where
  -- a put of one that the test does not let through takes away the one of its id
  pub put-unseen : (p : T → Bool) (x : T) (xs : List T) → IsById key xs → p x ≡ false → filter p (put_id key x xs) ≡ filter p (without_id key (key x) xs)
  put-unseen p x xs h hides =
      let others : T → Bool = λ y. not (key y == key x) in
      let put : IsById key (put_id key x xs) = IsById-put key x xs h in
      let left : IsById key (filter others xs) = IsById-filter key others xs h in
      same_by_id key _ _ (IsById-filter key p _ put) (IsById-filter key p _ left)
      (λ id. find-filter key p id _ put ∙ (ap (keep_if p) (find-put key x id xs)
      ∙ (hidden id (find_id key id xs) ∙ sym (find-filter key p id _ left ∙ ap (keep_if p) (find-without key (key x) id xs)))))
    where
      hidden : (id : ℕ) (o : Option T) → keep_if p (if key x == id then Some x else o) ≡ keep_if p (if key x == id then None else o)
      hidden id o = grind (arith, nat_tests, hides)

  -- a put of one that is there lets that one through besides
  pub put-also : (p : T → Bool) (x : T) (xs : List T) → IsById key xs → find_id key (key x) xs ≡ Some x → put_id key x (filter p xs) ≡ filter (λ y. p y || (key y == key x)) xs
  put-also p x xs h found =
      let also : T → Bool = λ y. p y || (key y == key x) in
      same_by_id key _ _ (IsById-put key x _ (IsById-filter key p xs h)) (IsById-filter key also xs h)
      (λ id. find-put key x id (filter p xs) ∙ (ap (λ o. if key x == id then Some x else o) (find-filter key p id xs h)
      ∙ (there id (find_id key id xs) (λ y e. key-found key id xs y e) (λ e. subst (λ (k : ℕ). find_id key k xs ≡ Some x) e found) ∙ sym (find-filter key also id xs h))))
    where
      there : (id : ℕ) (o : Option T) → ((y : T) → o ≡ Some y → key y ≡ id) → (key x ≡ id → o ≡ Some x)
          → (if key x == id then Some x else keep_if p o) ≡ keep_if (λ y. p y || (key y == key x)) o
      there id None at is = grind (arith, nat_tests, is)
      there id (Some y) at is = let k : key y ≡ id = at y refl in by_test (key x == id) refl
        where
          by_test : (b : Bool) → (key x == id) ≡ b → (if b then Some x else keep_if p (Some y)) ≡ keep_if (λ y. p y || (key y == key x)) (Some y)
          by_test true e =
              let same : Some y ≡ Some x = is (eqb-true (key x) id e) in
              let passes : (p y || (key y == key x)) ≡ true = grind (arith, nat_tests, at y refl, e) in
              sym (ap (λ b. if b then Some y else None) passes ∙ same)
          by_test false e =
              let other : (p y || (key y == key x)) ≡ p y = grind (arith, nat_tests, at y refl, e) in
              sym (ap (λ b. if b then Some y else None) other)

  -- puts of all that a second test lets through
  pub put_all-also : (p q : T → Bool) (xs : List T) → IsById key xs → put_all key (filter p xs) (filter q xs) ≡ filter (λ y. p y || q y) xs
  put_all-also p q xs h =
      let one : IsById key (filter p xs) = IsById-filter key p xs h in
      let two : IsById key (filter q xs) = IsById-filter key q xs h in
      same_by_id key _ _ (IsById-put_all key (filter p xs) (filter q xs) one) (IsById-filter key (λ y. p y || q y) xs h)
      (λ id. find-put_all key id (filter p xs) (filter q xs) two
      ∙ (ap (λ o. or_else o (find_id key id (filter p xs))) (find-filter key q id xs h)
      ∙ (ap (or_else (keep_if q (find_id key id xs))) (find-filter key p id xs h)
      ∙ (either (find_id key id xs) ∙ sym (find-filter key (λ y. p y || q y) id xs h)))))
    where
      either : (o : Option T) → or_else (keep_if q o) (keep_if p o) ≡ keep_if (λ y. p y || q y) o
      either None = refl
      either (Some y) = by_tests (p y) (q y)
        where
          by_tests : (a b : Bool) → or_else (if b then Some y else None) (if a then Some y else None) ≡ (if a || b then Some y else None)
          by_tests true true = refl
          by_tests true false = refl
          by_tests false true = refl
          by_tests false false = refl

  -- each of a list is found in it
  pub each-there : (xs : List T) → IsById key xs → All (λ x. find_id key (key x) xs ≡ Some x) xs
  each-there [] h = All-nil (λ x. find_id key (key x) [] ≡ Some x)
  each-there (x ∷ xs) h =
      All-cons (λ y. find_id key (key y) (x ∷ xs) ≡ Some y) x xs here
      (All-weaker (λ y. find_id key (key y) xs ≡ Some y) (λ y. find_id key (key y) (x ∷ xs) ≡ Some y) further xs (each-there xs h.1))
    where
      here : find_id key (key x) (x ∷ xs) ≡ Some x
      here = grind (arith, nat_tests)

      further : (y : T) → find_id key (key y) xs ≡ Some y → find_id key (key y) (x ∷ xs) ≡ Some y
      further y found = let above : key y ≤ key x → find_id key (key y) xs ≡ None = λ le. find_above key (key y) (key x) xs le h.0 in grind (arith, nat_tests, above, found)

  pub each-has : (xs : List T) → All (λ x. has_id key (key x) xs ≡ true) xs
  each-has [] = All-nil (λ x. has_id key (key x) [] ≡ true)
  each-has (x ∷ xs) =
      All-cons (λ y. has_id key (key y) (x ∷ xs) ≡ true) x xs here
      (All-weaker (λ y. has_id key (key y) xs ≡ true) (λ y. has_id key (key y) (x ∷ xs) ≡ true) further xs (each-has xs))
    where
      here : has_id key (key x) (x ∷ xs) ≡ true
      here = ap (λ b. is_some (if b then Some x else find_id key (key x) xs)) (eq-eqb (key x) (key x) refl)

      further : (y : T) → has_id key (key y) xs ≡ true → has_id key (key y) (x ∷ xs) ≡ true
      further y there = by_test (key x == key y)
        where
          by_test : (b : Bool) → is_some (if b then Some x else find_id key (key y) xs) ≡ true
          by_test true = refl
          by_test false = there
