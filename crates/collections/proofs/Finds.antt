-- A list that ascends by id is known by its look-ups, and each edit of it by what it then finds.
use Rattle.std.proofs.Common.{◌≡◌, ℕ, ◌<◌, ◌≤◌, Bool, true, false, not, List, [], ◌∷◌, map, Some, None, if◌then◌else◌, refl, sym, ap, ◌∙◌, arith, inl, inr}
use Rattle.std.specs.Prelude.{◌==◌, filter, option_map, option_and_then, Option}
use Rattle.std.specs.List.{items_where_true, filter_map}
use Rattle.std.proofs.lemmas.Bool.{cases_lt}
use Rattle.std.proofs.lemmas.Bool.Decides.{nat_tests}
use Rattle.collections.specs.ById.{find_id, put_id, AllAbove, IsById, changed_id, keep_if, or_else, put_all, without_id}
use Rattle.collections.proofs.Ids.{AllAbove-weaker, find_above, IsById-put}

-- where a thing was changed or may be gone, what it was
pub found-map : {T U : Type 0} (f : T → U) (o : Option T) (y : U) → option_map f o ≡ Some y → (x : T) × ((o ≡ Some x) × (y ≡ f x))
found-map f None y e = absurd (cc)
found-map f (Some x) y e = (x, (refl, cc))

pub found-left : {T : Type 0} (gone : Bool) (o : Option T) (x : T) → (if gone then None else o) ≡ Some x → (gone ≡ false) × (o ≡ Some x)
found-left true o x e = absurd (cc)
found-left false o x e = (refl, e)

pub found-kept : {T : Type 0} (p : T → Bool) (o : Option T) (x : T) → keep_if p o ≡ Some x → (p x ≡ true) × (o ≡ Some x)
found-kept p None x e = absurd (cc)
found-kept p (Some y) x e = by_test (p y) refl e
  where
    by_test : (b : Bool) → p y ≡ b → (if b then Some y else None) ≡ Some x → (p x ≡ true) × (Some y ≡ Some x)
    by_test true passes e = let same : y ≡ x = cc in (ap p (sym same) ∙ passes, e)
    by_test false passes e = absurd (cc)

module _ {T : Type 0} (key : T → ℕ) where
  -- what is found has the id
  pub key-found : (id : ℕ) (xs : List T) (x : T) → find_id key id xs ≡ Some x → key x ≡ id
  key-found id [] x e = absurd (cc)
  key-found id (y ∷ ys) x e = grind (arith, nat_tests, key-found id ys x)

  find_head : (x : T) (xs : List T) → find_id key (key x) (x ∷ xs) ≡ Some x
  find_head x xs = grind (arith, nat_tests)

  find_tail : (id : ℕ) (x : T) (xs : List T) → (key x ≡ id → ⊥) → find_id key id (x ∷ xs) ≡ find_id key id xs
  find_tail id x xs ne = grind (arith, nat_tests)

  find_below : (id : ℕ) (x : T) (xs : List T) → IsById key (x ∷ xs) → id < key x → find_id key id (x ∷ xs) ≡ None
  find_below id x xs h lt = find_above key id id (x ∷ xs) (omega arith) (lt, AllAbove-weaker key id (key x) xs (omega arith) h.0)

  same_head : (x y : T) (xs ys : List T) → IsById key (x ∷ xs) → IsById key (y ∷ ys) → ((id : ℕ) → find_id key id (x ∷ xs) ≡ find_id key id (y ∷ ys)) → x ≡ y
  same_head x y xs ys h k e = elim (cases_lt (key x) (key y)) [
    | inl lt ↦ absurd (cc (find_head x xs, e (key x), find_below (key x) y ys k lt))
    | inr ge ↦ elim (cases_lt (key y) (key x)) [
      | inl lt ↦ absurd (cc (find_head y ys, e (key y), find_below (key y) x xs h lt))
      | inr le ↦ (let same : key x ≡ key y = omega arith in cc (find_head x xs, e (key x), find_head y ys, same))
    ]
  ]

  same_tail : (x : T) (xs ys : List T) → AllAbove key (key x) xs → AllAbove key (key x) ys → ((id : ℕ) → find_id key id (x ∷ xs) ≡ find_id key id (x ∷ ys)) → (id : ℕ) → find_id key id xs ≡ find_id key id ys
  same_tail x xs ys h k e id = elim (cases_lt (key x) id) [
    | inl lt ↦ (let ne : key x ≡ id → ⊥ = omega arith in sym (find_tail id x xs ne) ∙ (e id ∙ find_tail id x ys ne))
    | inr ge ↦ find_above key id (key x) xs ge h ∙ sym (find_above key id (key x) ys ge k)
  ]

  -- two lists that find the same are the same
  pub same_by_id : (xs ys : List T) → IsById key xs → IsById key ys → ((id : ℕ) → find_id key id xs ≡ find_id key id ys) → xs ≡ ys
  same_by_id [] [] h k e = refl
  same_by_id [] (y ∷ ys) h k e = absurd (cc (find_head y ys, e (key y)))
  same_by_id (x ∷ xs) [] h k e = absurd (cc (find_head x xs, e (key x)))
  same_by_id (x ∷ xs) (y ∷ ys) h k e =
      let head : x ≡ y = same_head x y xs ys h k e in
      let ks : AllAbove key (key x) ys = rw head k.0 in
      let es : (id : ℕ) → find_id key id (x ∷ xs) ≡ find_id key id (x ∷ ys) = λ id. e id ∙ ap (λ z. find_id key id (z ∷ ys)) (sym head) in
      let tail : xs ≡ ys = same_by_id xs ys h.1 k.1 (same_tail x xs ys h.0 ks es) in
      cc

  pub find-put : (x : T) (id : ℕ) (xs : List T) → find_id key id (put_id key x xs) ≡ (if key x == id then Some x else find_id key id xs)
  find-put x id [] = refl
  find-put x id (y ∷ ys) = grind (arith, nat_tests, find-put x id ys)

  pub find-changed : (at : ℕ) (f : T → T) → ((x : T) → key (f x) ≡ key x) → (id : ℕ) (xs : List T) → find_id key id (changed_id key at f xs) ≡ (if at == id then option_map f (find_id key id xs) else find_id key id xs)
  find-changed at f same id [] = grind (arith, nat_tests)
  find-changed at f same id (x ∷ xs) = grind (arith, nat_tests, same x, find-changed at f same id xs)

  pub find-without : (gone id : ℕ) (xs : List T) → find_id key id (without_id key gone xs) ≡ (if gone == id then None else find_id key id xs)
  find-without gone id [] = grind arith
  find-without gone id (x ∷ xs) = grind (arith, nat_tests, find-without gone id xs)

  -- what is still found after one is taken away is another, which was found
  pub found-without : (gone id : ℕ) (xs : List T) (x : T) → find_id key id (without_id key gone xs) ≡ Some x → ((gone == id) ≡ false) × (find_id key id xs ≡ Some x)
  found-without gone id xs x e = found-left (gone == id) (find_id key id xs) x (sym (find-without gone id xs) ∙ e)

  AllAbove-filter : (p : T → Bool) (k : ℕ) (xs : List T) → AllAbove key k xs → AllAbove key k (filter p xs)
  AllAbove-filter p k [] h = tt
  AllAbove-filter p k (x ∷ xs) h = elim (p x) as (λ b. AllAbove key k (if b then x ∷ filter p xs else filter p xs)) [
    | true ↦ (h.0, AllAbove-filter p k xs h.1)
    | false ↦ AllAbove-filter p k xs h.1
  ]

  pub IsById-filter : (p : T → Bool) (xs : List T) → IsById key xs → IsById key (filter p xs)
  IsById-filter p [] h = tt
  IsById-filter p (x ∷ xs) h = elim (p x) as (λ b. IsById key (if b then x ∷ filter p xs else filter p xs)) [
    | true ↦ (AllAbove-filter p (key x) xs h.0, IsById-filter p xs h.1)
    | false ↦ IsById-filter p xs h.1
  ]

  pub IsById-without : (id : ℕ) (xs : List T) → IsById key xs → IsById key (without_id key id xs)
  IsById-without id xs h = IsById-filter (λ x. not (key x == id)) xs h

  AllAbove-where : (k : ℕ) (bs : List Bool) (xs : List T) → AllAbove key k xs → AllAbove key k (items_where_true bs xs)
  AllAbove-where k [] xs h = tt
  AllAbove-where k (b ∷ bs) [] h = tt
  AllAbove-where k (true ∷ bs) (x ∷ xs) h = (h.0, AllAbove-where k bs xs h.1)
  AllAbove-where k (false ∷ bs) (x ∷ xs) h = AllAbove-where k bs xs h.1

  pub IsById-where : (bs : List Bool) (xs : List T) → IsById key xs → IsById key (items_where_true bs xs)
  IsById-where [] xs h = tt
  IsById-where (b ∷ bs) [] h = tt
  IsById-where (true ∷ bs) (x ∷ xs) h = (AllAbove-where (key x) bs xs h.0, IsById-where bs xs h.1)
  IsById-where (false ∷ bs) (x ∷ xs) h = IsById-where bs xs h.1

  pub find-filter : (p : T → Bool) (id : ℕ) (xs : List T) → IsById key xs → find_id key id (filter p xs) ≡ keep_if p (find_id key id xs)
  find-filter p id [] h = refl
  find-filter p id (x ∷ xs) h =
      let rest = find-filter p id xs h.1 in
      let above : id ≤ key x → find_id key id xs ≡ None = λ le. find_above key id (key x) xs le h.0 in
      grind (arith, nat_tests, rest, above)

  -- what a filter let through passes, and was there
  pub found-filter : (p : T → Bool) (id : ℕ) (xs : List T) (x : T) → IsById key xs → find_id key id (filter p xs) ≡ Some x → (p x ≡ true) × (find_id key id xs ≡ Some x)
  found-filter p id xs x h e = found-kept p (find_id key id xs) x (sym (find-filter p id xs h) ∙ e)

  pub IsById-put_all : (xs ys : List T) → IsById key xs → IsById key (put_all key xs ys)
  IsById-put_all xs [] h = h
  IsById-put_all xs (y ∷ ys) h = IsById-put_all (put_id key y xs) ys (IsById-put key y xs h)

  pub find-put_all : (id : ℕ) (xs ys : List T) → IsById key ys → find_id key id (put_all key xs ys) ≡ or_else (find_id key id ys) (find_id key id xs)
  find-put_all id xs [] h = refl
  find-put_all id xs (y ∷ ys) h =
      let rest = find-put_all id (put_id key y xs) ys h.1 in
      let above : id ≤ key y → find_id key id ys ≡ None = λ le. find_above key id (key y) ys le h.0 in
      grind (arith, nat_tests, rest, above, find-put y id xs)

-- the same records in another form, by the same ids
module _ {T U : Type 0} (key : T → ℕ) (as_key : U → ℕ) (f : T → U) (same : (x : T) → as_key (f x) ≡ key x) where
  AllAbove-map : (k : ℕ) (xs : List T) → AllAbove key k xs → AllAbove as_key k (map f xs)
  AllAbove-map k [] h = tt
  AllAbove-map k (x ∷ xs) h = (omega (arith, same x, h.0), AllAbove-map k xs h.1)

  pub IsById-map : (xs : List T) → IsById key xs → IsById as_key (map f xs)
  IsById-map [] h = tt
  IsById-map (x ∷ xs) h = (rw (same x) (AllAbove-map (key x) xs h.0), IsById-map xs h.1)

  pub find-map : (id : ℕ) (xs : List T) → find_id as_key id (map f xs) ≡ option_map f (find_id key id xs)
  find-map id [] = refl
  find-map id (x ∷ xs) = grind (arith, nat_tests, same x, find-map id xs)

  -- what is found among them is what becomes of the one that was found
  pub found-mapped : (id : ℕ) (xs : List T) (y : U) → find_id as_key id (map f xs) ≡ Some y → (x : T) × ((find_id key id xs ≡ Some x) × (y ≡ f x))
  found-mapped id xs y e = found-map f (find_id key id xs) y (sym (find-map id xs) ∙ e)

-- parts that some records have, listed by the same ids: who has one finds its own
module _ {T M : Type 0} (key : T → ℕ) (part : T → Option M) (part_key : M → ℕ) (same : (x : T) (m : M) → part x ≡ Some m → part_key m ≡ key x) where
  pub find-parts : (id : ℕ) (xs : List T) → IsById key xs → find_id part_key id (filter_map part xs) ≡ option_and_then part (find_id key id xs)
  find-parts id [] h = refl
  find-parts id (x ∷ xs) h =
      by_part (part x) refl (find-parts id xs h.1) (λ le. find_above key id (key x) xs le h.0)
    where
      by_part : (o : Option M) → part x ≡ o → find_id part_key id (filter_map part xs) ≡ option_and_then part (find_id key id xs) → (id ≤ key x → find_id key id xs ≡ None) → find_id part_key id (filter_map part (x ∷ xs)) ≡ option_and_then part (if key x == id then Some x else find_id key id xs)
      by_part None e rest above = grind (arith, nat_tests, e, rest, above)
      by_part (Some m) e rest above = let at = same x m e in grind (arith, nat_tests, e, rest, at)
