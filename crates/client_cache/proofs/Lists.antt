-- Lists by id: many records that are put, one that is there, and one that is changed.
use Rattle.std.proofs.Common.{◌≡◌, ℕ, Bool, true, false, ◌||◌, List, [], ◌∷◌, map, Option, Some, None, if◌then◌else◌, refl, sym, ap, ◌∙◌, arith}
use Rattle.std.specs.Prelude.{◌==◌, filter, is_some, option_map, cond}
use Rattle.std.specs.List.{find}
use Rattle.std.proofs.lemmas.Bool.Decides.{nat_tests}
use Rattle.collections.specs.ById.{IsById, find_id, has_id, put_id, put_all, changed_id, keep_if, or_else}
use Rattle.collections.proofs.Ids.{IsById-changed}
use Rattle.collections.proofs.Finds.{same_by_id, key-found, find-put, find-changed, find-filter, find-map, IsById-filter, IsById-map, IsById-put_all}
use Rattle.collections.proofs.Has.{has-put}
use Rattle.collections.proofs.Filters.{put-same}
use Rattle.guild_model.specs.Record.{own_id}
use Rattle.dispatch_types.specs.Fold.{contains}

or_true : (b : Bool) → (b || true) ≡ true
or_true true = refl
or_true false = refl

or_false : (b : Bool) → (b || false) ≡ b
or_false true = refl
or_false false = refl

module _ {T : Type 0} (key : T → ℕ) where
  last_of : (o : Option T) (b : Bool) (y : T) (x : Option T) → or_else o (if b then Some y else x) ≡ or_else (or_else o (if b then Some y else None)) x
  last_of None true y x = refl
  last_of None false y x = refl
  last_of (Some a) b y x = refl

  -- what is found after many puts is the last of them, or what was there
  pub find-put_all-any : (id : ℕ) (xs ys : List T) → find_id key id (put_all key xs ys) ≡ or_else (find_id key id (put_all key [] ys)) (find_id key id xs)
  find-put_all-any id xs [] = refl
  find-put_all-any id xs (y ∷ ys) =
      find-put_all-any id (put_id key y xs) ys
      ∙ (ap (or_else (find_id key id (put_all key [] ys))) (find-put key y id xs)
      ∙ (last_of (find_id key id (put_all key [] ys)) (key y == id) y (find_id key id xs)
      ∙ sym (ap (λ o. or_else o (find_id key id xs)) (find-put_all-any id (y ∷ []) ys))))

  either_way : (here : Bool) (y : T) (found : Option T) (others : Bool) → (is_some found || (here || others)) ≡ (is_some (if here then Some y else found) || others)
  either_way true y None others = refl
  either_way true y (Some x) others = refl
  either_way false y found others = refl

  has_all : (id : ℕ) (xs ys : List T) → has_id key id (put_all key xs ys) ≡ (has_id key id ys || has_id key id xs)
  has_all id xs [] = refl
  has_all id xs (y ∷ ys) =
      has_all id (put_id key y xs) ys
      ∙ (ap (λ b. has_id key id ys || b) (has-put key y id xs)
      ∙ either_way (key y == id) y (find_id key id ys) (has_id key id xs))

  -- the ids that are there after many puts into nothing
  pub has-all : (id : ℕ) (ys : List T) → has_id key id (put_all key [] ys) ≡ has_id key id ys
  has-all id ys = has_all id [] ys ∙ or_false (has_id key id ys)

  keeps_if : (out : T → Bool) (new : ℕ → Bool) (id : ℕ) (a x : Option T) → ((t : T) → a ≡ Some t → key t ≡ id) → ((t : T) → x ≡ Some t → key t ≡ id) → new id ≡ is_some a → keep_if (λ t. out t || new (key t)) (or_else a x) ≡ or_else a (keep_if out x)
  keeps_if out new id (Some t) x of_a of_x is =
      ap (λ b. if b then Some t else None) (ap (λ b. out t || b) (ap new (of_a t refl) ∙ is) ∙ or_true (out t))
  keeps_if out new id None None of_a of_x is = refl
  keeps_if out new id None (Some t) of_a of_x is =
      ap (λ b. if b then Some t else None) (ap (λ b. out t || b) (ap new (of_x t refl) ∙ is) ∙ or_false (out t))

  -- first put and then let go is first let go and then put
  pub put-then-drop : (out : T → Bool) (new : ℕ → Bool) (xs ys : List T) → IsById key xs → ((id : ℕ) → new id ≡ has_id key id (put_all key [] ys)) → filter (λ t. out t || new (key t)) (put_all key xs ys) ≡ put_all key (filter out xs) ys
  put-then-drop out new xs ys h is =
      let p : T → Bool = λ t. out t || new (key t) in
      let put : IsById key (put_all key xs ys) = IsById-put_all key xs ys h in
      let left : IsById key (filter out xs) = IsById-filter key out xs h in
      same_by_id key _ _ (IsById-filter key p _ put) (IsById-put_all key _ ys left)
      (λ id. find-filter key p id _ put
      ∙ (ap (keep_if p) (find-put_all-any id xs ys)
      ∙ (keeps_if out new id (find_id key id (put_all key [] ys)) (find_id key id xs) (λ t e. key-found key id _ t e) (λ t e. key-found key id xs t e) (is id)
      ∙ sym (find-put_all-any id (filter out xs) ys ∙ ap (or_else (find_id key id (put_all key [] ys))) (find-filter key out id xs h)))))

  module _ (id : ℕ) (f : T → T) (same : (x : T) → key (f x) ≡ key x) where
    abbrev changed_if : T → T
    changed_if t = if key t == id then f t else t

    same_if : (t : T) → key (changed_if t) ≡ key t
    same_if t = by_test (key t == id)
      where
        by_test : (b : Bool) → key (if b then f t else t) ≡ key t
        by_test true = same t
        by_test false = refl

    at_id : (i : ℕ) (o : Option T) → ((t : T) → o ≡ Some t → key t ≡ i) → (if id == i then option_map f o else o) ≡ option_map changed_if o
    at_id i None of = either (id == i)
      where
        either : (b : Bool) → (if b then option_map f None else None) ≡ None
        either true = refl
        either false = refl
    at_id i (Some t) of = let e : key t ≡ i = of t refl in grind (arith, nat_tests)

    -- a change of the one of an id
    pub changed-map : (xs : List T) → IsById key xs → changed_id key id f xs ≡ map (λ t. if key t == id then f t else t) xs
    changed-map xs h =
        same_by_id key _ _ (IsById-changed key id f xs same h) (IsById-map key key changed_if same_if xs h)
        (λ i. find-changed key id f same i xs ∙ (at_id i (find_id key i xs) (λ t e. key-found key i xs t e) ∙ sym (find-map key key changed_if same_if i xs)))

-- a put of what is there
pub known-same : (user : ℕ) (known : List ℕ) → IsById own_id known → has_id own_id user known ≡ true → put_id own_id user known ≡ known
known-same user known h there = by_find (find_id own_id user known) refl
  where
    by_find : (o : Option ℕ) → find_id own_id user known ≡ o → put_id own_id user known ≡ known
    by_find None e = absurd (cc (ap is_some e, there))
    by_find (Some x) e = put-same own_id user known h (e ∙ ap Some (key-found own_id user known x e))

-- an id is listed
pub has-contains : (id : ℕ) (ids : List ℕ) → has_id own_id id ids ≡ contains id ids
has-contains id [] = refl
has-contains id (x ∷ xs) = by_test (x == id) (has-contains id xs)
  where
    by_test : (b : Bool) → has_id own_id id xs ≡ contains id xs → is_some (if b then Some x else find_id own_id id xs) ≡ (b || contains id xs)
    by_test true rest = refl
    by_test false rest = rest

-- the first of an id, among others that are made of some
module _ {T U : Type 0} (f : T → U) (key : T → ℕ) (as_key : U → ℕ) (same : (x : T) → as_key (f x) ≡ key x) where
  pub find-made : (id : ℕ) (xs : List T) → find (λ y. as_key y == id) (map f xs) ≡ option_map f (find (λ x. key x == id) xs)
  find-made id [] = refl
  find-made id (x ∷ xs) = ap (λ k. cond (k == id) (Some (f x)) (find (λ y. as_key y == id) (map f xs))) (same x) ∙ by_test (key x == id) (find-made id xs)
    where
      by_test : (b : Bool) → find (λ y. as_key y == id) (map f xs) ≡ option_map f (find (λ x. key x == id) xs) → cond b (Some (f x)) (find (λ y. as_key y == id) (map f xs)) ≡ option_map f (cond b (Some x) (find (λ x. key x == id) xs))
      by_test true rest = refl
      by_test false rest = rest

  still : (o : Option T) → is_some (option_map f o) ≡ is_some o
  still None = refl
  still (Some x) = refl

  -- the same ids are there
  pub has-made : (id : ℕ) (xs : List T) → has_id as_key id (map f xs) ≡ has_id key id xs
  has-made id xs = ap is_some (find-map key as_key f same id xs) ∙ still (find_id key id xs)
