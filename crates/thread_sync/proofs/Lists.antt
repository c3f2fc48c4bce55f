-- Lists that are filtered and mapped.
use Rattle.std.proofs.Common.{◌≡◌, ℕ, Bool, true, false, List, [], ◌∷◌, map, Option, Some, None, if◌then◌else◌, refl, sym, ap, ◌∙◌, arith, eq-eqb, ◌&&◌, ◌||◌, ◌≤◌}
use Rattle.std.specs.Prelude.{◌==◌, filter, cond, is_some, option_map, option_to_list}
use Rattle.std.specs.List.{find, list_any}
use Rattle.std.proofs.lemmas.Bool.{eqb-true}
use Rattle.std.proofs.lemmas.Bool.Decides.{nat_tests}
use Rattle.collections.specs.ById.{find_id, has_id, AllAbove, IsById, keep_if}
use Rattle.collections.proofs.Ids.{find_above}
use Rattle.collections.proofs.Finds.{key-found, same_by_id, find-filter, find-map, IsById-map}
use Rattle.guild_model.specs.Record.{own_id}

-- a test of what is mapped
pub filter-map : {T U : Type 0} (f : T → U) (p : U → Bool) (xs : List T) → filter p (map f xs) ≡ map f (filter (λ x. p (f x)) xs)
filter-map f p [] = refl
filter-map f p (x ∷ xs) = by_test (p (f x)) (filter-map f p xs)
  where
    by_test : (b : Bool) → filter p (map f xs) ≡ map f (filter (λ x. p (f x)) xs) → cond b (f x ∷ filter p (map f xs)) (filter p (map f xs)) ≡ map f (cond b (x ∷ filter (λ x. p (f x)) xs) (filter (λ x. p (f x)) xs))
    by_test true rest = ap (λ ys. f x ∷ ys) rest
    by_test false rest = rest

pub unless : (b : Bool) → (b ≡ true → b ≡ false) → b ≡ false
unless true h = h refl
unless false h = refl

-- where no item passes, none that is found does
pub none-passes : {T : Type 0} (key : T → ℕ) (p : T → Bool) (id : ℕ) (x : T) (xs : List T) → list_any p xs ≡ false → find_id key id xs ≡ Some x → p x ≡ false
none-passes key p id x [] none found = absurd (cc)
none-passes key p id x (y ∷ ys) none found = grind (arith, nat_tests, none-passes key p id x ys)

-- the key of an item that is found and passes is among those of the items that pass
pub has-passed : {T : Type 0} (key : T → ℕ) (p : T → Bool) (id : ℕ) (x : T) (xs : List T) → find_id key id xs ≡ Some x → p x ≡ true → has_id own_id id (map key (filter p xs)) ≡ true
has-passed key p id x [] found is = absurd (cc)
has-passed key p id x (y ∷ ys) found is = grind (arith, nat_tests, has-passed key p id x ys)

-- of an ascending list those of one id are the one that is found
pub filter-one : {T : Type 0} (key : T → ℕ) (id : ℕ) (xs : List T) → IsById key xs → filter (λ x. key x == id) xs ≡ option_to_list (find_id key id xs)
filter-one key id [] h = refl
filter-one key id (x ∷ xs) h = by_test (key x == id) refl (filter-one key id xs h.1)
  where
    by_test : (b : Bool) → (key x == id) ≡ b → filter (λ x. key x == id) xs ≡ option_to_list (find_id key id xs)
        → cond b (x ∷ filter (λ x. key x == id) xs) (filter (λ x. key x == id) xs) ≡ option_to_list (if b then Some x else find_id key id xs)
    by_test true is rest =
        let le : id ≤ key x = let e = eqb-true (key x) id is in omega (arith, e) in
        ap (λ ys. x ∷ ys) (rest ∙ ap option_to_list (find_above key id (key x) xs le h.0))
    by_test false is rest = rest

-- the key of an item that is found is among those of the items that pass exactly where it passes
pub among-kept : {T : Type 0} (key : T → ℕ) (p : T → Bool) (id : ℕ) (x : T) (xs : List T) → IsById key xs → find_id key id xs ≡ Some x → has_id own_id id (map key (filter p xs)) ≡ p x
among-kept key p id x xs h found =
    ap (λ o. is_some o) (find-map key own_id key (λ x. refl) id (filter p xs) ∙ ap (option_map key) (find-filter key p id xs h ∙ ap (keep_if p) found))
    ∙ by_test (p x)
  where
    by_test : (b : Bool) → is_some (option_map key (if b then Some x else None)) ≡ b
    by_test true = refl
    by_test false = refl

-- two ways to map an ascending list that agree on what is found
module _ {T U : Type 0} (key : T → ℕ) (as_key : U → ℕ) (f g : T → U) (by_f : (x : T) → as_key (f x) ≡ key x) (by_g : (x : T) → as_key (g x) ≡ key x) where
  agree : (o : Option T) → ((x : T) → o ≡ Some x → f x ≡ g x) → option_map f o ≡ option_map g o
  agree None same = refl
  agree (Some x) same = ap (λ (y : U). Some y) (same x refl)

  pub map-same : (xs : List T) → IsById key xs → ((id : ℕ) (x : T) → find_id key id xs ≡ Some x → f x ≡ g x) → map f xs ≡ map g xs
  map-same xs h same =
      same_by_id as_key _ _ (IsById-map key as_key f by_f xs h) (IsById-map key as_key g by_g xs h)
      (λ id. find-map key as_key f by_f id xs ∙ (agree (find_id key id xs) (same id) ∙ sym (find-map key as_key g by_g id xs)))

module _ {T : Type 0} (key : T → ℕ) (p : T → Bool) where
  -- a test that goes by the key: what it lets through is found where it passes
  pub find-kept : (q : ℕ → Bool) → ((x : T) → p x ≡ q (key x)) → (id : ℕ) (xs : List T) → find_id key id (filter p xs) ≡ keep_if p (find_id key id xs)
  find-kept q same id [] = refl
  find-kept q same id (x ∷ xs) = by_tests (key x == id) (p x) refl refl (find-kept q same id xs)
    where
      hidden : p x ≡ false → key x ≡ id → (o : Option T) → find_id key id xs ≡ o → keep_if p o ≡ None
      hidden gone at None there = refl
      hidden gone at (Some y) there = ap (λ b. if b then Some y else None) (same y ∙ (ap q (key-found key id xs y there ∙ sym at) ∙ (sym (same x) ∙ gone)))

      by_tests : (here passes : Bool) → (key x == id) ≡ here → p x ≡ passes → find_id key id (filter p xs) ≡ keep_if p (find_id key id xs)
          → find_id key id (cond passes (x ∷ filter p xs) (filter p xs)) ≡ keep_if p (if here then Some x else find_id key id xs)
      by_tests true true at is rest = ap (λ b. if b then Some x else find_id key id (filter p xs)) at ∙ sym (ap (λ b. if b then Some x else None) is)
      by_tests true false at is rest = rest ∙ (hidden is (eqb-true (key x) id at) (find_id key id xs) refl ∙ sym (ap (λ b. if b then Some x else None) is))
      by_tests false true at is rest = ap (λ b. if b then Some x else find_id key id (filter p xs)) at ∙ rest
      by_tests false false at is rest = rest

  -- an id among those of the items that pass is that of an item that does
  pub among-passed : (id : ℕ) (xs : List T) → has_id own_id id (map key (filter p xs)) ≡ true → (x : T) × (key x ≡ id) × (p x ≡ true)
  among-passed id [] among = absurd (cc)
  among-passed id (x ∷ xs) among = by_test (p x) refl among (among-passed id xs)
    where
      by_id : (here : Bool) → (key x == id) ≡ here → p x ≡ true → is_some (if here then Some (key x) else find_id own_id id (map key (filter p xs))) ≡ true
          → (has_id own_id id (map key (filter p xs)) ≡ true → (y : T) × (key y ≡ id) × (p y ≡ true)) → (y : T) × (key y ≡ id) × (p y ≡ true)
      by_id true at passes e rest = (x, eqb-true (key x) id at, passes)
      by_id false at passes e rest = rest e

      by_test : (b : Bool) → p x ≡ b → has_id own_id id (map key (cond b (x ∷ filter p xs) (filter p xs))) ≡ true
          → (has_id own_id id (map key (filter p xs)) ≡ true → (y : T) × (key y ≡ id) × (p y ≡ true)) → (y : T) × (key y ≡ id) × (p y ≡ true)
      by_test true passes e rest = by_id (key x == id) refl passes e rest
      by_test false passes e rest = rest e

-- where no item passes
pub filter-nothing : {T : Type 0} (p : T → Bool) → ((x : T) → p x ≡ false) → (xs : List T) → filter p xs ≡ []
filter-nothing p none [] = refl
filter-nothing p none (x ∷ xs) = ap (λ b. cond b (x ∷ filter p xs) (filter p xs)) (none x) ∙ filter-nothing p none xs

pub any-nothing : {T : Type 0} (p : T → Bool) → ((x : T) → p x ≡ false) → (xs : List T) → list_any p xs ≡ false
any-nothing p none [] = refl
any-nothing p none (x ∷ xs) = ap (λ b. b || list_any p xs) (none x) ∙ any-nothing p none xs

-- the first item of a key is the item of that key
pub find-first : {T : Type 0} (key : T → ℕ) (id : ℕ) (xs : List T) → find (λ x. key x == id) xs ≡ find_id key id xs
find-first key id [] = refl
find-first key id (x ∷ xs) = by_test (key x == id) (find-first key id xs)
  where
    by_test : (b : Bool) → find (λ x. key x == id) xs ≡ find_id key id xs → cond b (Some x) (find (λ x. key x == id) xs) ≡ (if b then Some x else find_id key id xs)
    by_test true rest = refl
    by_test false rest = rest

-- tests one after the other, and tests that agree
module _ {T : Type 0} where
  pub filter-both : (p q : T → Bool) (xs : List T) → filter p (filter q xs) ≡ filter (λ x. p x && q x) xs
  filter-both p q [] = refl
  filter-both p q (x ∷ xs) = grind (arith, filter-both p q xs)

  pub filter-alike : (p q : T → Bool) → ((x : T) → p x ≡ q x) → (xs : List T) → filter p xs ≡ filter q xs
  filter-alike p q same [] = refl
  filter-alike p q same (x ∷ xs) = ap (λ b. cond b (x ∷ filter p xs) (filter p xs)) (same x) ∙ ap (λ ys. cond (q x) (x ∷ ys) ys) (filter-alike p q same xs)

  pub any-alike : (p q : T → Bool) → ((x : T) → p x ≡ q x) → (xs : List T) → list_any p xs ≡ list_any q xs
  any-alike p q same [] = refl
  any-alike p q same (x ∷ xs) = ap (λ b. b || list_any p xs) (same x) ∙ ap (λ b. q x || b) (any-alike p q same xs)

  pub any-filter : (p q : T → Bool) (xs : List T) → list_any p (filter q xs) ≡ list_any (λ x. q x && p x) xs
  any-filter p q [] = refl
  any-filter p q (x ∷ xs) = grind (arith, any-filter p q xs)

  pub any-less : (p q : T → Bool) → ((x : T) → q x ≡ true → p x ≡ true) → (xs : List T) → list_any p xs ≡ false → list_any q xs ≡ false
  any-less p q less [] none = refl
  any-less p q less (x ∷ xs) none = let step = less x in let rest = any-less p q less xs in grind (arith, step, rest)

-- where none that is found passes, no item does; and tests that agree on what is found
module _ {T : Type 0} (key : T → ℕ) (p : T → Bool) where
  -- what is found among the rest is found
  later : (x : T) (xs : List T) → AllAbove key (key x) xs → (id : ℕ) (y : T) → find_id key id xs ≡ Some y → (if key x == id then Some x else find_id key id xs) ≡ Some y
  later x xs h id y found = let above : id ≤ key x → find_id key id xs ≡ None = λ le. find_above key id (key x) xs le h in grind (arith, nat_tests)

  pub any-none : (xs : List T) → IsById key xs → ((id : ℕ) (x : T) → find_id key id xs ≡ Some x → p x ≡ false) → list_any p xs ≡ false
  any-none [] h none = refl
  any-none (x ∷ xs) h none =
      let here : p x ≡ false = none (key x) x (ap (λ b. if b then Some x else find_id key (key x) xs) (eq-eqb (key x) (key x) refl)) in
      let rest : list_any p xs ≡ false = any-none xs h.1 (λ id y found. none id y (later x xs h.0 id y found)) in
      ap (λ b. b || list_any p xs) here ∙ rest

  pub any-same : (q : T → Bool) (xs : List T) → IsById key xs → ((id : ℕ) (x : T) → find_id key id xs ≡ Some x → p x ≡ q x) → list_any p xs ≡ list_any q xs
  any-same q [] h same = refl
  any-same q (x ∷ xs) h same =
      let here : p x ≡ q x = same (key x) x (ap (λ b. if b then Some x else find_id key (key x) xs) (eq-eqb (key x) (key x) refl)) in
      let rest : list_any p xs ≡ list_any q xs = any-same q xs h.1 (λ id y found. same id y (later x xs h.0 id y found)) in
      ap (λ b. b || list_any p xs) here ∙ ap (λ b. q x || b) rest
