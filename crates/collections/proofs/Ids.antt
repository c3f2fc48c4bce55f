-- Look-ups and edits of lists that ascend by id.
use Rattle.std.proofs.Common.{◌≡◌, ℕ, zero, suc, ◌<◌, ◌≤◌, Bool, true, false, List, [], ◌∷◌, length, get_or, set, None, Some, IsSome, slice_get, if◌then◌else◌, refl, ap, subst, arith, inl, inr}
use Rattle.std.specs.Prelude.{nat_lt, ◌==◌}
use Rattle.std.specs.List.{insert}
use Rattle.std.specs.List.Sorted.{IsPartitionedBy, IsNonDecreasingBy, IsPartitionPoint}
use Rattle.std.proofs.lemmas.Bool.{cases_lt}
use Rattle.std.proofs.lemmas.Bool.Decides.{nat_tests}
use Rattle.std.proofs.lemmas.List.Sorted.{IsPartitionedBy-ltb}
use Rattle.collections.specs.ById.{find_id, put_id, AllAbove, IsById, count_below, with_id, changed_id}

module _ {T : Type 0} (key : T → ℕ) where
  pub AllAbove-weaker : (k m : ℕ) (xs : List T) → k ≤ m → AllAbove key m xs → AllAbove key k xs
  AllAbove-weaker k m [] le h = tt
  AllAbove-weaker k m (x ∷ xs) le h = (omega (arith, h.0), AllAbove-weaker k m xs le h.1)

  AllAbove-at : (k : ℕ) (xs : List T) (i : ℕ) (d : T) → AllAbove key k xs → i < length xs → k < key (get_or xs i d)
  AllAbove-at k [] i d h lt = absurd (omega arith)
  AllAbove-at k (x ∷ xs) zero d h lt = h.0
  AllAbove-at k (x ∷ xs) (suc i) d h lt = AllAbove-at k xs i d h.1 (omega arith)

  rises : (xs : List T) → IsById key xs → IsNonDecreasingBy key xs
  rises [] h i j d le lt = absurd (omega arith)
  rises (x ∷ xs) h zero zero d le lt = omega arith
  rises (x ∷ xs) h zero (suc j) d le lt = omega (arith, AllAbove-at (key x) xs j d h.0 (omega arith))
  rises (x ∷ xs) h (suc i) zero d le lt = absurd (omega arith)
  rises (x ∷ xs) h (suc i) (suc j) d le lt = rises xs h.1 i j d (omega arith) (omega arith)

  pub parted : (xs : List T) (id : ℕ) → IsById key xs → IsPartitionedBy (λ y. nat_lt (key y) id) xs
  parted xs id h = IsPartitionedBy-ltb key xs id (rises xs h)

  pub count_is : (id : ℕ) (xs : List T) (i : ℕ) → i ≤ length xs → IsPartitionPoint (λ y. nat_lt (key y) id ≡ true) (λ y. nat_lt (key y) id ≡ false) xs i → count_below key id xs ≡ i
  count_is id [] i le h = omega arith
  count_is id (x ∷ xs) zero le h = let e : nat_lt (key x) id ≡ false = h.1 0 x (omega arith) (omega arith) in rw e refl
  count_is id (x ∷ xs) (suc i) le h =
      let e : nat_lt (key x) id ≡ true = h.0 0 x (omega arith) (omega arith) in
      rw e (ap suc (count_is id xs i (omega arith) ((λ k d lo hi. h.0 (suc k) d (omega arith) (omega arith)), (λ k d lo hi. h.1 (suc k) d (omega arith) (omega arith)))))

  pub find_above : (id k : ℕ) (xs : List T) → id ≤ k → AllAbove key k xs → find_id key id xs ≡ None
  find_above id k [] le h = refl
  find_above id k (x ∷ xs) le h = grind (arith, nat_tests, h.0, find_above id k xs le h.1)

  pub find_at_place : (id : ℕ) (xs : List T) → IsById key xs → with_id key id (slice_get xs (count_below key id xs)) ≡ find_id key id xs
  find_at_place id [] h = refl
  find_at_place id (x ∷ xs) h = elim (cases_lt (key x) id) [
    | inl lt ↦ grind (arith, nat_tests, find_at_place id xs h.1)
    | inr ge ↦ grind (arith, nat_tests, find_above id (key x) xs ge h.0)
  ]

  pub count_le : (id : ℕ) (xs : List T) → count_below key id xs ≤ length xs
  count_le id [] = omega arith
  count_le id (x ∷ xs) = elim (cases_lt (key x) id) [
    | inl lt ↦ grind (arith, nat_tests, count_le id xs)
    | inr ge ↦ grind (arith, nat_tests)
  ]

  pub insert_is_put : (x : T) (xs : List T) → find_id key (key x) xs ≡ None → insert xs (count_below key (key x) xs) x ≡ put_id key x xs
  insert_is_put x [] h = refl
  insert_is_put x (y ∷ ys) h = elim (cases_lt (key y) (key x)) [
    | inl lt ↦ grind (arith, nat_tests, insert_is_put x ys)
    | inr ge ↦ grind (arith, nat_tests)
  ]

  -- a put goes before the first, onto it, or behind it
  put_before : (x y : T) (ys : List T) → key x < key y → put_id key x (y ∷ ys) ≡ x ∷ y ∷ ys
  put_before x y ys lt = grind (arith, nat_tests)

  put_onto : (x y : T) (ys : List T) → key x ≡ key y → put_id key x (y ∷ ys) ≡ x ∷ ys
  put_onto x y ys e = grind (arith, nat_tests)

  put_behind : (x y : T) (ys : List T) → key y < key x → put_id key x (y ∷ ys) ≡ y ∷ put_id key x ys
  put_behind x y ys lt = grind (arith, nat_tests)

  AllAbove-put : (k : ℕ) (x : T) (xs : List T) → k < key x → AllAbove key k xs → AllAbove key k (put_id key x xs)
  AllAbove-put k x [] lt h = (lt, tt)
  AllAbove-put k x (y ∷ ys) lt h = elim (cases_lt (key x) (key y)) [
    | inl below ↦ let e = put_before x y ys below in rw e (lt, h)
    | inr ge ↦ elim (cases_lt (key y) (key x)) [
      | inl above ↦ let e = put_behind x y ys above in rw e (h.0, AllAbove-put k x ys lt h.1)
      | inr le ↦ let e = put_onto x y ys (omega arith) in rw e (lt, h.1)
    ]
  ]

  pub IsById-put : (x : T) (xs : List T) → IsById key xs → IsById key (put_id key x xs)
  IsById-put x [] h = (tt, tt)
  IsById-put x (y ∷ ys) h = elim (cases_lt (key x) (key y)) [
    | inl below ↦ let e = put_before x y ys below in rw e ((below, AllAbove-weaker (key x) (key y) ys (omega arith) h.0), h)
    | inr ge ↦ elim (cases_lt (key y) (key x)) [
      | inl above ↦ let e = put_behind x y ys above in rw e (AllAbove-put (key y) x ys above h.0, IsById-put x ys h.1)
      | inr le ↦ let e = put_onto x y ys (omega arith) in rw e (AllAbove-weaker (key x) (key y) ys (omega arith) h.0, h.1)
    ]
  ]

  -- an item that is changed in place
  pub changed_here : (id : ℕ) (f : T → T) (xs : List T) (i : ℕ) (d y : T) → IsById key xs → i ≡ count_below key id xs → i < length xs → key (get_or xs i d) ≡ id → y ≡ f (get_or xs i d) → set xs i y ≡ changed_id key id f xs
  changed_here id f [] i d y h e lt k w = absurd (omega arith)
  changed_here id f (x ∷ xs) zero d y h e lt k w = grind (arith, nat_tests)
  changed_here id f (x ∷ xs) (suc i) d y h e lt k w = elim (cases_lt (key x) id) [
    | inl below ↦ (let c : i ≡ count_below key id xs = grind (arith, nat_tests) in grind (arith, nat_tests, changed_here id f xs i d y h.1 c (omega arith) k w))
    | inr ge ↦ absurd (grind (arith, nat_tests))
  ]

  unchanged_above : (id k : ℕ) (f : T → T) (xs : List T) → id ≤ k → AllAbove key k xs → xs ≡ changed_id key id f xs
  unchanged_above id k f [] le h = refl
  unchanged_above id k f (x ∷ xs) le h = grind (arith, nat_tests, h.0, unchanged_above id k f xs le h.1)

  -- no item has the id
  pub unchanged : (id : ℕ) (f : T → T) (xs : List T) (i : ℕ) → IsById key xs → i ≡ count_below key id xs → ((d : T) → i < length xs → key (get_or xs i d) ≡ id → ⊥) → xs ≡ changed_id key id f xs
  unchanged id f [] i h e none = refl
  unchanged id f (x ∷ xs) zero h e none = elim (cases_lt (key x) id) [
    | inl below ↦ absurd (grind (arith, nat_tests))
    | inr ge ↦ (let ne : key x ≡ id → ⊥ = none x (omega arith) in grind (arith, nat_tests, unchanged_above id (key x) f xs ge h.0))
  ]
  unchanged id f (x ∷ xs) (suc i) h e none = elim (cases_lt (key x) id) [
    | inl below ↦ (let c : i ≡ count_below key id xs = grind (arith, nat_tests) in grind (arith, nat_tests, unchanged id f xs i h.1 c (λ d lt k. none d (omega arith) k)))
    | inr ge ↦ absurd (grind (arith, nat_tests))
  ]

  above_if : (b : Bool) (k : ℕ) (x y : T) (xs ys : List T) → key y ≡ key x → AllAbove key k (x ∷ xs) → AllAbove key k ys → AllAbove key k (if b then y ∷ xs else x ∷ ys)
  above_if true k x y xs ys same h r = (rw same h.0, h.1)
  above_if false k x y xs ys same h r = (h.0, r)

  AllAbove-changed : (id k : ℕ) (f : T → T) (xs : List T) → ((x : T) → key (f x) ≡ key x) → AllAbove key k xs → AllAbove key k (changed_id key id f xs)
  AllAbove-changed id k f [] same h = tt
  AllAbove-changed id k f (x ∷ xs) same h = above_if (key x == id) k x (f x) xs _ (same x) h (AllAbove-changed id k f xs same h.1)

  by_id_if : (b : Bool) (x y : T) (xs ys : List T) → key y ≡ key x → IsById key (x ∷ xs) → AllAbove key (key x) ys → IsById key ys → IsById key (if b then y ∷ xs else x ∷ ys)
  by_id_if true x y xs ys same h a r = (rw same h.0, h.1)
  by_id_if false x y xs ys same h a r = (a, r)

  pub IsById-changed : (id : ℕ) (f : T → T) (xs : List T) → ((x : T) → key (f x) ≡ key x) → IsById key xs → IsById key (changed_id key id f xs)
  IsById-changed id f [] same h = tt
  IsById-changed id f (x ∷ xs) same h = by_id_if (key x == id) x (f x) xs _ (same x) h (AllAbove-changed id (key x) f xs same h.0) (IsById-changed id f xs same h.1)

  -- one that is there is found before the end
  pub count_lt : (id : ℕ) (xs : List T) → IsById key xs → IsSome (find_id key id xs) → count_below key id xs < length xs
  count_lt id [] h there = absurd (cc there)
  count_lt id (x ∷ xs) h there = elim (cases_lt (key x) id) [
    | inl lt ↦ (let found : IsSome (find_id key id xs) = subst IsSome (skip id x xs lt) there in let rest = count_lt id xs h.1 found in grind (arith, nat_tests, rest))
    | inr ge ↦ grind (arith, nat_tests)
  ]
    where
      skip : (id : ℕ) (x : T) (xs : List T) → key x < id → find_id key id (x ∷ xs) ≡ find_id key id xs
      skip id x xs lt = grind (arith, nat_tests)

  -- an item in the place of the one with its id
  pub replaced : (x : T) (xs : List T) → IsById key xs → IsSome (find_id key (key x) xs) → set xs (count_below key (key x) xs) x ≡ put_id key x xs
  replaced x [] h there = absurd (cc there)
  replaced x (y ∷ ys) h there = elim (cases_lt (key y) (key x)) [
    | inl lt ↦ (let found : IsSome (find_id key (key x) ys) = subst IsSome (skip lt) there in let rest = replaced x ys h.1 found in grind (arith, nat_tests, rest))
    | inr ge ↦ elim (cases_lt (key x) (key y)) [
      | inl below ↦ (let none : find_id key (key x) (y ∷ ys) ≡ None = find_above (key x) (key x) (y ∷ ys) (omega arith) (below, AllAbove-weaker (key x) (key y) ys (omega arith) h.0) in absurd (cc (subst IsSome none there)))
      | inr le ↦ (let same : key x ≡ key y = omega arith in grind (arith, nat_tests, same))
    ]
  ]
    where
      skip : key y < key x → find_id key (key x) (y ∷ ys) ≡ find_id key (key x) ys
      skip lt = grind (arith, nat_tests)

  -- what is found lies behind those with a smaller id
  pub found_at : (id : ℕ) (xs : List T) (d : T) → IsById key xs → IsSome (find_id key id xs) → find_id key id xs ≡ Some (get_or xs (count_below key id xs) d)
  found_at id [] d h there = absurd (cc there)
  found_at id (x ∷ xs) d h there = elim (cases_lt (key x) id) [
    | inl lt ↦ (let found : IsSome (find_id key id xs) = subst IsSome (skip lt) there in let rest = found_at id xs d h.1 found in grind (arith, nat_tests, rest))
    | inr ge ↦ elim (cases_lt id (key x)) [
      | inl below ↦ (let none : find_id key id (x ∷ xs) ≡ None = find_above id id (x ∷ xs) (omega arith) (below, AllAbove-weaker id (key x) xs (omega arith) h.0) in absurd (cc (subst IsSome none there)))
      | inr le ↦ (let same : key x ≡ id = omega arith in grind (arith, nat_tests, same))
    ]
  ]
    where
      skip : key x < id → find_id key id (x ∷ xs) ≡ find_id key id xs
      skip lt = grind (arith, nat_tests)
