-- Which ids a list has after an edit of it, and what holds of all its records.
use Rattle.std.proofs.Common.{◌≡◌, ℕ, Bool, true, false, not, ◌&&◌, ◌||◌, List, [], ◌∷◌, map, Option, Some, None, if◌then◌else◌, refl, sym, ap, ◌∙◌, subst, arith}
use Rattle.std.specs.Prelude.{◌==◌, nat_lt, is_some, option_map, All}
use Rattle.std.proofs.lemmas.Bool.{and_parts, not-true}
use Rattle.std.proofs.lemmas.List.Elements.{All-cons, All-head, All-tail}
use Rattle.collections.specs.ById.{find_id, has_id, put_id, changed_id, without_id}
use Rattle.collections.proofs.Finds.{find-put, find-changed, find-without, find-map}

module _ {T : Type 0} (key : T → ℕ) where
  pub has-put : (x : T) (id : ℕ) (xs : List T) → has_id key id (put_id key x xs) ≡ ((key x == id) || has_id key id xs)
  has-put x id xs = rw (find-put key x id xs) (either (key x == id) (find_id key id xs))
    where
      either : (b : Bool) (o : Option T) → is_some (if b then Some x else o) ≡ (b || is_some o)
      either true o = refl
      either false o = refl

  -- what was there stays there
  pub has-kept : (x : T) (id : ℕ) (xs : List T) → has_id key id xs ≡ true → has_id key id (put_id key x xs) ≡ true
  has-kept x id xs h = grind (arith, has-put x id xs)

  pub has-without : (gone id : ℕ) (xs : List T) → has_id key id (without_id key gone xs) ≡ (not (gone == id) && has_id key id xs)
  has-without gone id xs = rw (find-without key gone id xs) (both (gone == id) (find_id key id xs))
    where
      both : (b : Bool) (o : Option T) → is_some {T = T} (if b then None else o) ≡ (not b && is_some o)
      both true o = refl
      both false o = refl

  -- what is still there after one is taken away is another, which was there
  pub has-left : (gone id : ℕ) (xs : List T) → has_id key id (without_id key gone xs) ≡ true → ((gone == id) ≡ false) × (has_id key id xs ≡ true)
  has-left gone id xs there =
      let parts = and_parts (not (gone == id)) (has_id key id xs) (sym (has-without gone id xs) ∙ there) in
      (not-true (gone == id) parts.0, parts.1)

  pub has-changed : (at : ℕ) (f : T → T) → ((x : T) → key (f x) ≡ key x) → (id : ℕ) (xs : List T) → has_id key id (changed_id key at f xs) ≡ has_id key id xs
  has-changed at f same id xs = rw (find-changed key at f same id xs) (still (at == id) (find_id key id xs))
    where
      still : (b : Bool) (o : Option T) → is_some (if b then option_map f o else o) ≡ is_some o
      still true None = refl
      still true (Some x) = refl
      still false o = refl

  pub has-map : (f : T → T) → ((x : T) → key (f x) ≡ key x) → (id : ℕ) (xs : List T) → has_id key id (map f xs) ≡ has_id key id xs
  has-map f same id xs = rw (find-map key key f same id xs) (still (find_id key id xs))
    where
      still : (o : Option T) → is_some (option_map f o) ≡ is_some o
      still None = refl
      still (Some x) = refl

  alike_if : (b : Bool) (x y z : T) (xs ys zs : List T) → (b ≡ true → y ≡ z) → (b ≡ false → ys ≡ zs) → (if b then y ∷ xs else x ∷ ys) ≡ (if b then z ∷ xs else x ∷ zs)
  alike_if true x y z xs ys zs here there = ap (λ w. w ∷ xs) (here refl)
  alike_if false x y z xs ys zs here there = ap (λ ws. x ∷ ws) (there refl)

  -- a change counts only at the record that is found
  pub changed_alike : (id : ℕ) (f g : T → T) (xs : List T) → ((x : T) → find_id key id xs ≡ Some x → f x ≡ g x) → changed_id key id f xs ≡ changed_id key id g xs
  changed_alike id f g [] same = refl
  changed_alike id f g (x ∷ xs) same =
      alike_if (key x == id) x (f x) (g x) xs _ _ (λ e. same x (rw e refl)) (λ e. changed_alike id f g xs (λ y found. same y (rw e found)))

module _ {T : Type 0} (key : T → ℕ) (P : T → Type 0) where
  found_if : (b : Bool) (x y : T) (o : Option T) → P y → (o ≡ Some x → P x) → (if b then Some y else o) ≡ Some x → P x
  found_if true x y o here there e = let same : y ≡ x = cc in subst P same here
  found_if false x y o here there e = there e

  pub All-found : (id : ℕ) (xs : List T) (x : T) → All P xs → find_id key id xs ≡ Some x → P x
  All-found id [] x all found = absurd (cc)
  All-found id (y ∷ ys) x all found =
      found_if (key y == id) x y (find_id key id ys) (All-head P y ys all) (All-found id ys x (All-tail P y ys all)) found

  All-if : (b : Bool) (xs ys : List T) → All P xs → All P ys → All P (if b then xs else ys)
  All-if true xs ys h k = h
  All-if false xs ys h k = k

  pub All-put : (x : T) (xs : List T) → P x → All P xs → All P (put_id key x xs)
  All-put x [] one all = All-cons P x [] one all
  All-put x (y ∷ ys) one all =
      let rest : All P ys = All-tail P y ys all in
      All-if (nat_lt (key x) (key y)) _ _ (All-cons P x (y ∷ ys) one all)
      (All-if (key x == key y) _ _ (All-cons P x ys one rest) (All-cons P y _ (All-head P y ys all) (All-put x ys one rest)))

  pub All-changed : (id : ℕ) (f : T → T) (xs : List T) → ((x : T) → P x → P (f x)) → All P xs → All P (changed_id key id f xs)
  All-changed id f [] keeps all = all
  All-changed id f (x ∷ xs) keeps all =
      let rest : All P xs = All-tail P x xs all in
      All-if (key x == id) _ _ (All-cons P (f x) xs (keeps x (All-head P x xs all)) rest) (All-cons P x _ (All-head P x xs all) (All-changed id f xs keeps rest))
