-- Lists of what a test lets through, in another form, as one record is put among all or goes.
use Rattle.std.proofs.Common.{◌≡◌, ℕ, Bool, true, false, not, List, map, Option, Some, None, if◌then◌else◌, refl, sym, ap, subst, ◌∙◌, arith}
use Rattle.std.specs.Prelude.{◌==◌, filter, option_map}
use Rattle.std.proofs.lemmas.Bool.Decides.{nat_tests}
use Rattle.collections.specs.ById.{find_id, put_id, without_id, IsById, keep_if}
use Rattle.collections.proofs.Ids.{IsById-put}
use Rattle.collections.proofs.Finds.{key-found, same_by_id, find-put, find-without, find-filter, find-map, IsById-filter, IsById-map}
use Rattle.collections.proofs.Filters.{filter-put_hidden, filter-without_hidden}

module _ {T U : Type 0} (key : T → ℕ) (as_key : U → ℕ) (f : T → U) (same : (x : T) → as_key (f x) ≡ key x) (p : T → Bool) where
  abbrev pub shown : List T → List U
  shown xs = map f (filter p xs)

  pub IsById-shown : (xs : List T) → IsById key xs → IsById as_key (shown xs)
  IsById-shown xs h = IsById-map key as_key f same _ (IsById-filter key p xs h)

  pub find-shown : (id : ℕ) (xs : List T) → IsById key xs → find_id as_key id (shown xs) ≡ option_map f (keep_if p (find_id key id xs))
  find-shown id xs h = find-map key as_key f same id (filter p xs) ∙ ap (option_map f) (find-filter key p id xs h)

  -- a list of the other form that finds what is shown
  shown_by_id : (ys : List U) (xs : List T) → IsById as_key ys → IsById key xs → ((id : ℕ) → find_id as_key id ys ≡ option_map f (keep_if p (find_id key id xs))) → ys ≡ shown xs
  shown_by_id ys xs g h finds = same_by_id as_key ys (shown xs) g (IsById-shown xs h) (λ id. finds id ∙ sym (find-shown id xs h))

  -- a put of what the test lets through
  pub shown-put : (x : T) (xs : List T) → IsById key xs → p x ≡ true → put_id as_key (f x) (shown xs) ≡ shown (put_id key x xs)
  shown-put x xs h passes =
      shown_by_id _ _ (IsById-put as_key (f x) _ (IsById-shown xs h)) (IsById-put key x xs h)
      (λ id. cc (find-put as_key (f x) id (shown xs), find-shown id xs h, find-put key x id xs, at id (find_id key id xs)))
    where
      at : (id : ℕ) (o : Option T) → (if as_key (f x) == id then Some (f x) else option_map f (keep_if p o)) ≡ option_map f (keep_if p (if key x == id then Some x else o))
      at id o = let e = same x in grind (arith, nat_tests, e, passes)

  -- a put that is followed by a test of the other form
  pub shown-tested : (q : U → Bool) (x : T) (xs : List T) → IsById key xs → ((y : T) → p y ≡ true → q (f y) ≡ true) → p x ≡ q (f x) → filter q (put_id as_key (f x) (shown xs)) ≡ shown (put_id key x xs)
  shown-tested q x xs h keeps agree =
      let put : IsById as_key (put_id as_key (f x) (shown xs)) = IsById-put as_key (f x) _ (IsById-shown xs h) in
      shown_by_id _ _ (IsById-filter as_key q _ put) (IsById-put key x xs h)
      (λ id. cc (find-filter as_key q id _ put, find-put as_key (f x) id (shown xs), find-shown id xs h, find-put key x id xs, at id (find_id key id xs)))
    where
      at : (id : ℕ) (o : Option T) → keep_if q (if as_key (f x) == id then Some (f x) else option_map f (keep_if p o)) ≡ option_map f (keep_if p (if key x == id then Some x else o))
      at id None = let e = same x in grind (arith, nat_tests, e, agree)
      at id (Some y) = let e = same x in let k = keeps y in grind (arith, nat_tests, e, agree, k)

  -- a put of what the test does not let through, where nothing of its id was
  pub shown-hidden : (x : T) (xs : List T) → IsById key xs → p x ≡ false → keep_if p (find_id key (key x) xs) ≡ None → shown xs ≡ shown (put_id key x xs)
  shown-hidden x xs h hides none = ap (map f) (sym (filter-put_hidden key p x xs h hides none))

  -- and where something was
  pub shown-dropped : (x : T) (xs : List T) → IsById key xs → p x ≡ false → without_id as_key (key x) (shown xs) ≡ shown (put_id key x xs)
  shown-dropped x xs h hides =
      shown_by_id _ _ (IsById-filter as_key (λ y. not (as_key y == key x)) _ (IsById-shown xs h)) (IsById-put key x xs h)
      (λ id. cc (find-without as_key (key x) id (shown xs), find-shown id xs h, find-put key x id xs, at id (find_id key id xs)))
    where
      at : (id : ℕ) (o : Option T) → (if key x == id then None else option_map f (keep_if p o)) ≡ option_map f (keep_if p (if key x == id then Some x else o))
      at id o = grind (arith, nat_tests, hides)

  -- a put in the place of one that is shown alike
  pub shown-alike : (x y : T) (xs : List T) → IsById key xs → find_id key (key x) xs ≡ Some y → f y ≡ f x → p y ≡ p x → shown xs ≡ shown (put_id key x xs)
  shown-alike x y xs h found alike agree =
      shown_by_id _ _ (IsById-shown xs h) (IsById-put key x xs h)
      (λ id. cc (find-shown id xs h, find-put key x id xs, at id (find_id key id xs) (λ e. subst (λ (k : ℕ). find_id key k xs ≡ Some y) e found)))
    where
      at : (id : ℕ) (o : Option T) → (key x ≡ id → o ≡ Some y) → option_map f (keep_if p o) ≡ option_map f (keep_if p (if key x == id then Some x else o))
      at id o is = grind (arith, nat_tests, alike, agree)

  -- one that goes
  pub shown-without : (id : ℕ) (xs : List T) → IsById key xs → without_id as_key id (shown xs) ≡ shown (without_id key id xs)
  shown-without gone xs h =
      shown_by_id _ _ (IsById-filter as_key (λ y. not (as_key y == gone)) _ (IsById-shown xs h)) (IsById-filter key (λ y. not (key y == gone)) xs h)
      (λ id. cc (find-without as_key gone id (shown xs), find-shown id xs h, find-without key gone id xs, at id (find_id key id xs)))
    where
      at : (id : ℕ) (o : Option T) → (if gone == id then None else option_map f (keep_if p o)) ≡ option_map f (keep_if p (if gone == id then None else o))
      at id o = grind (arith, nat_tests)

  pub shown-without_hidden : (id : ℕ) (xs : List T) → IsById key xs → keep_if p (find_id key id xs) ≡ None → shown xs ≡ shown (without_id key id xs)
  shown-without_hidden id xs h none = ap (map f) (sym (filter-without_hidden key p id xs h none))

-- a change of the one of an id is a put
module _ {T : Type 0} (key : T → ℕ) where
  pub mapped-put : (id : ℕ) (g : T → T) (y : T) (xs : List T) → IsById key xs → ((x : T) → key (g x) ≡ key x) → find_id key id xs ≡ Some y
      → map (λ x. if key x == id then g x else x) xs ≡ put_id key (g y) xs
  mapped-put at g y xs h same found =
      same_by_id key _ _ (IsById-map key key turn keeps xs h) (IsById-put key (g y) xs h)
      (λ id. cc (find-map key key turn keeps id xs, find-put key (g y) id xs, one id (find_id key id xs) (λ x e. key-found key id xs x e) (λ e. subst (λ (k : ℕ). find_id key k xs ≡ Some y) e found)))
    where
      turn : T → T
      turn x = if key x == at then g x else x

      keeps : (x : T) → key (turn x) ≡ key x
      keeps x = let e = same x in grind (arith, e)

      is_at : key (g y) ≡ at
      is_at = same y ∙ key-found key at xs y found

      one : (id : ℕ) (o : Option T) → ((x : T) → o ≡ Some x → key x ≡ id) → (at ≡ id → o ≡ Some y) → option_map turn o ≡ (if key (g y) == id then Some (g y) else o)
      one id None is there = let e = is_at in grind (arith, nat_tests, e)
      one id (Some x) is there = let e = is_at in let i : key x ≡ id = is x refl in grind (arith, nat_tests, e, i)
