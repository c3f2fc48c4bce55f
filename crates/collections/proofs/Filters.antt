-- What a filter of an ascending list becomes when the list, the test or both change.
use Rattle.std.proofs.Common.{◌≡◌, ℕ, Bool, true, false, not, List, Option, Some, None, if◌then◌else◌, refl, subst, ◌∙◌, arith}
use Rattle.std.specs.Prelude.{◌==◌, filter, option_map}
use Rattle.std.proofs.lemmas.Bool.Decides.{nat_tests}
use Rattle.collections.specs.ById.{find_id, put_id, IsById, changed_id, keep_if, or_else, put_all, without_id}
use Rattle.collections.proofs.Ids.{IsById-put, IsById-changed}
use Rattle.collections.proofs.Finds.{key-found, same_by_id, find-put, find-changed, find-filter, find-put_all, IsById-filter, IsById-put_all}

-- what one look-up finds
module _ {T : Type 0} where
  keep-keep : (before after : T → Bool) (o : Option T) → ((x : T) → o ≡ Some x → after x ≡ true → before x ≡ true) → keep_if after (keep_if before o) ≡ keep_if after o
  keep-keep before after None h = refl
  keep-keep before after (Some x) h = let step = h x refl in grind (arith, step)

  keep-regained : (before after listed : T → Bool) (o : Option T) → ((x : T) → o ≡ Some x → after x ≡ true → listed x ≡ false → before x ≡ true) → keep_if after (or_else (keep_if listed (keep_if after o)) (keep_if (λ x. not (listed x)) (keep_if after (keep_if before o)))) ≡ keep_if after o
  keep-regained before after listed None h = refl
  keep-regained before after listed (Some x) h = let step = h x refl in grind (arith, step)

  keep-put : (p : T → Bool) (here : Bool) (x : T) (o : Option T) → keep_if p (if here then Some x else keep_if p o) ≡ keep_if p (if here then Some x else o)
  keep-put p true x o = refl
  keep-put p false x o = keep-keep p p o (λ x e y. y)

  keep-not : (p q : T → Bool) (o : Option T) → keep_if q (keep_if p o) ≡ keep_if p (keep_if q o)
  keep-not p q None = refl
  keep-not p q (Some x) = grind arith

module _ {T : Type 0} (key : T → ℕ) where
  -- a test that lets through no more than an earlier one
  pub filter-filter : (before after : T → Bool) (xs : List T) → IsById key xs → ((id : ℕ) (x : T) → find_id key id xs ≡ Some x → after x ≡ true → before x ≡ true) → filter after (filter before xs) ≡ filter after xs
  filter-filter before after xs h narrows =
      same_by_id key _ _ (IsById-filter key after _ (IsById-filter key before xs h)) (IsById-filter key after xs h)
      (λ id. cc (find-filter key after id (filter before xs) (IsById-filter key before xs h), find-filter key before id xs h, find-filter key after id xs h, keep-keep before after (find_id key id xs) (narrows id)))

  -- only the test changes: what both let through, with the listed put anew, is what the new test lets through
  pub filter-regained : (before after listed : T → Bool) (xs : List T) → IsById key xs → ((id : ℕ) (x : T) → find_id key id xs ≡ Some x → after x ≡ true → listed x ≡ false → before x ≡ true) → filter after (put_all key (filter (λ x. not (listed x)) (filter after (filter before xs))) (filter listed (filter after xs))) ≡ filter after xs
  filter-regained before after listed xs h covers =
      let others : T → Bool = λ x. not (listed x) in
      let first : IsById key (filter before xs) = IsById-filter key before xs h in
      let both : IsById key (filter after (filter before xs)) = IsById-filter key after _ first in
      let kept : IsById key (filter others (filter after (filter before xs))) = IsById-filter key others _ both in
      let seen : IsById key (filter after xs) = IsById-filter key after xs h in
      let come : IsById key (filter listed (filter after xs)) = IsById-filter key listed _ seen in
      let all : IsById key (put_all key (filter others (filter after (filter before xs))) (filter listed (filter after xs))) = IsById-put_all key _ (filter listed (filter after xs)) kept in
      same_by_id key _ _ (IsById-filter key after _ all) seen
      (λ id. cc (find-filter key after id _ all, find-put_all key id (filter others (filter after (filter before xs))) _ come, find-filter key listed id _ seen, find-filter key after id xs h, find-filter key others id _ both, find-filter key after id _ first, find-filter key before id xs h, keep-regained before after listed (find_id key id xs) (covers id)))

  -- the test is made again after the put
  pub filter-put : (p : T → Bool) (x : T) (xs : List T) → IsById key xs → filter p (put_id key x (filter p xs)) ≡ filter p (put_id key x xs)
  filter-put p x xs h =
      let seen : IsById key (filter p xs) = IsById-filter key p xs h in
      same_by_id key _ _ (IsById-filter key p _ (IsById-put key x _ seen)) (IsById-filter key p _ (IsById-put key x _ h))
      (λ id. cc (find-filter key p id _ (IsById-put key x _ seen), find-put key x id (filter p xs), find-filter key p id xs h, find-filter key p id _ (IsById-put key x _ h), find-put key x id xs, keep-put p (key x == id) x (find_id key id xs)))

  -- a put of what the test does not let through, where nothing of its id was let through
  pub filter-put_hidden : (p : T → Bool) (x : T) (xs : List T) → IsById key xs → p x ≡ false → keep_if p (find_id key (key x) xs) ≡ None → filter p (put_id key x xs) ≡ filter p xs
  filter-put_hidden p x xs h hides none =
      let put : IsById key (put_id key x xs) = IsById-put key x xs h in
      same_by_id key _ _ (IsById-filter key p _ put) (IsById-filter key p xs h)
      (λ id. cc (find-filter key p id _ put, find-put key x id xs, find-filter key p id xs h, keep-put_hidden p x id (find_id key id xs) hides (λ e. subst (λ (k : ℕ). keep_if p (find_id key k xs) ≡ None) e none)))
    where
      keep-put_hidden : (p : T → Bool) (x : T) (id : ℕ) (o : Option T) → p x ≡ false → (key x ≡ id → keep_if p o ≡ None) → keep_if p (if key x == id then Some x else o) ≡ keep_if p o
      keep-put_hidden p x id o hides none = grind (arith, nat_tests)

  -- the test stays true of the others where one goes
  pub filter-without : (p : T → Bool) (id : ℕ) (xs : List T) → IsById key xs → without_id key id (filter p xs) ≡ filter p (without_id key id xs)
  filter-without p gone xs h =
      let others : T → Bool = λ x. not (key x == gone) in
      same_by_id key _ _ (IsById-filter key others _ (IsById-filter key p xs h)) (IsById-filter key p _ (IsById-filter key others xs h))
      (λ id. cc (find-filter key others id _ (IsById-filter key p xs h), find-filter key p id xs h, find-filter key p id _ (IsById-filter key others xs h), find-filter key others id xs h, keep-not p others (find_id key id xs)))

  -- two filters in either order
  pub filter-swap : (p q : T → Bool) (xs : List T) → IsById key xs → filter p (filter q xs) ≡ filter q (filter p xs)
  filter-swap p q xs h =
      same_by_id key _ _ (IsById-filter key p _ (IsById-filter key q xs h)) (IsById-filter key q _ (IsById-filter key p xs h))
      (λ id. cc (find-filter key p id _ (IsById-filter key q xs h), find-filter key q id xs h, find-filter key q id _ (IsById-filter key p xs h), find-filter key p id xs h, keep-not q p (find_id key id xs)))

  -- a change of one that is there is a put
  pub changed-put : (id : ℕ) (f : T → T) (x : T) (xs : List T) → IsById key xs → ((x : T) → key (f x) ≡ key x) → find_id key id xs ≡ Some x → changed_id key id f xs ≡ put_id key (f x) xs
  changed-put at f x xs h same found =
      let is_at : key (f x) ≡ at = same x ∙ key-found key at xs x found in
      same_by_id key _ _ (IsById-changed key at f xs same h) (IsById-put key (f x) xs h)
      (λ id. cc (find-changed key at f same id xs, find-put key (f x) id xs, changed_or_put id (find_id key id xs) is_at (λ e. subst (λ (k : ℕ). find_id key k xs ≡ Some x) e found)))
    where
      changed_or_put : (id : ℕ) (o : Option T) → key (f x) ≡ at → (at ≡ id → o ≡ Some x) → (if at == id then option_map f o else o) ≡ (if key (f x) == id then Some (f x) else o)
      changed_or_put id o is_at found = grind (arith, nat_tests)

  -- a change of one that is not there
  pub changed-none : (id : ℕ) (f : T → T) (xs : List T) → IsById key xs → ((x : T) → key (f x) ≡ key x) → find_id key id xs ≡ None → changed_id key id f xs ≡ xs
  changed-none at f xs h same none =
      same_by_id key _ _ (IsById-changed key at f xs same h) h
      (λ id. cc (find-changed key at f same id xs, unchanged id (find_id key id xs) (λ e. subst (λ (k : ℕ). find_id key k xs ≡ None) e none)))
    where
      unchanged : (id : ℕ) (o : Option T) → (at ≡ id → o ≡ None) → (if at == id then option_map f o else o) ≡ o
      unchanged id o none = grind (arith, nat_tests)

  -- the second of two puts of one id stays
  pub put-put : (x y : T) (xs : List T) → IsById key xs → key x ≡ key y → put_id key x (put_id key y xs) ≡ put_id key x xs
  put-put x y xs h same =
      same_by_id key _ _ (IsById-put key x _ (IsById-put key y xs h)) (IsById-put key x xs h)
      (λ id. cc (find-put key x id (put_id key y xs), find-put key y id xs, find-put key x id xs, last id (find_id key id xs)))
    where
      last : (id : ℕ) (o : Option T) → (if key x == id then Some x else (if key y == id then Some y else o)) ≡ (if key x == id then Some x else o)
      last id o = grind (arith, nat_tests, same)

  -- a put of what is there
  pub put-same : (x : T) (xs : List T) → IsById key xs → find_id key (key x) xs ≡ Some x → put_id key x xs ≡ xs
  put-same x xs h found =
      same_by_id key _ _ (IsById-put key x xs h) h
      (λ id. cc (find-put key x id xs, there id (find_id key id xs) (λ e. subst (λ (k : ℕ). find_id key k xs ≡ Some x) e found)))
    where
      there : (id : ℕ) (o : Option T) → (key x ≡ id → o ≡ Some x) → (if key x == id then Some x else o) ≡ o
      there id o found = grind (arith, nat_tests)

  -- a put of what the test lets through needs no new test
  pub put-filter : (p : T → Bool) (x : T) (xs : List T) → IsById key xs → p x ≡ true → put_id key x (filter p xs) ≡ filter p (put_id key x xs)
  put-filter p x xs h passes =
      let seen : IsById key (filter p xs) = IsById-filter key p xs h in
      let put : IsById key (put_id key x xs) = IsById-put key x xs h in
      same_by_id key _ _ (IsById-put key x _ seen) (IsById-filter key p _ put)
      (λ id. cc (find-put key x id (filter p xs), find-filter key p id xs h, find-filter key p id _ put, find-put key x id xs, put_or id (find_id key id xs) passes))
    where
      put_or : (id : ℕ) (o : Option T) → p x ≡ true → (if key x == id then Some x else keep_if p o) ≡ keep_if p (if key x == id then Some x else o)
      put_or id o passes = grind arith

  -- where nothing of an id was let through, nothing goes
  pub filter-without_hidden : (p : T → Bool) (id : ℕ) (xs : List T) → IsById key xs → keep_if p (find_id key id xs) ≡ None → filter p (without_id key id xs) ≡ filter p xs
  filter-without_hidden p gone xs h none =
      let others : T → Bool = λ x. not (key x == gone) in
      let left : IsById key (filter others xs) = IsById-filter key others xs h in
      same_by_id key _ _ (IsById-filter key p _ left) (IsById-filter key p xs h)
      (λ id. cc (find-filter key p id _ left, find-filter key others id xs h, find-filter key p id xs h, hidden id (find_id key id xs) (λ x e. key-found key id xs x e) (λ e. subst (λ (k : ℕ). keep_if p (find_id key k xs) ≡ None) e none)))
    where
      hidden : (id : ℕ) (o : Option T) → ((x : T) → o ≡ Some x → key x ≡ id) → (gone ≡ id → keep_if p o ≡ None) → keep_if p (keep_if (λ x. not (key x == gone)) o) ≡ keep_if p o
      hidden id None is none = refl
      hidden id (Some x) is none = let at : key x ≡ id = is x refl in grind (arith, nat_tests)
