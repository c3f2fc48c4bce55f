-- Items by their numbers, and a list that is dealt from the front.
use Rattle.std.proofs.Common.{◌≡◌, ℕ, zero, suc, ◌+◌, ◌-◌, ◌<◌, List, [], ◌∷◌, ◌++◌, map, drop, length, refl, sym, ap, ap₂, subst, ◌∙◌, arith, add-one, add-zero, zero-add}
use Rattle.std.specs.Prelude.{Some, All, slice_get}
use Rattle.std.specs.List.{range_with_len}
use Rattle.std.proofs.lemmas.List.{map-id, length-drop}
use Rattle.std.proofs.lemmas.List.Elements.{All-nil, All-cons, All-head, All-tail}
use Rattle.run_stage.specs.Dealing.{AreFrom, IsAt}

module _ {X : Type 0} (Is : ℕ → X → Type 0) where
  grown : (first count : ℕ) (xs : List X) (x : X) → AreFrom Is first count xs → Is (first + count) x → AreFrom Is first (suc count) (xs ++ x ∷ [])
  grown first zero [] x all is = (subst (λ k. Is k x) (add-zero first) is, tt)
  grown first zero (y ∷ ys) x all is = absurd all
  grown first (suc count) [] x all is = absurd all
  grown first (suc count) (y ∷ ys) x all is =
      (all.0, grown (first + 1) count ys x all.1 (subst (λ k. Is k x) (omega arith) is))

  -- one item more
  pub one_more : (first count : ℕ) (xs more : List X) (x : X) → AreFrom Is first count xs → more ≡ xs ++ x ∷ [] → Is (first + count) x → AreFrom Is first (count + 1) more
  one_more first count xs more x all m is =
      rw m (rw (add-one count) (grown first count xs x all is))

  -- there is a first item
  pub some_left : (first count : ℕ) (xs : List X) → AreFrom Is first count xs → 0 < count → 0 < length xs
  some_left first zero xs all some = absurd (omega arith)
  some_left first (suc count) [] all some = absurd all
  some_left first (suc count) (x ∷ xs) all some = omega arith

  -- how many items there are
  pub as_many : (first count : ℕ) (xs : List X) → AreFrom Is first count xs → length xs ≡ count
  as_many first zero [] all = refl
  as_many first zero (x ∷ xs) all = absurd all
  as_many first (suc count) [] all = absurd all
  as_many first (suc count) (x ∷ xs) all = ap suc (as_many (first + 1) count xs all.1)

  -- the first item, and those after it, whose numbers begin after its own
  pub first_of : (first count later fewer : ℕ) (xs ys : List X) (x : X) → AreFrom Is first count xs → xs ≡ x ∷ ys → later ≡ first + 1 → fewer + 1 ≡ count
      → Is first x × AreFrom Is later fewer ys
  first_of first zero later fewer xs ys x all e l f = absurd (omega arith)
  first_of first (suc count) later fewer xs ys x all e l f =
      let both : AreFrom Is first (suc count) (x ∷ ys) = subst (AreFrom Is first (suc count)) e all in
      let same : count ≡ fewer = omega arith in
      (both.0, subst (λ k. AreFrom Is k fewer ys) (sym l) (subst (λ k. AreFrom Is (first + 1) k ys) same both.1))

  -- the item at a place
  pub at_place : (first count : ℕ) (xs : List X) (place : ℕ) (x : X) → AreFrom Is first count xs → IsAt xs place x → Is (first + place) x
  at_place first zero [] place x all at = absurd (cc)
  at_place first zero (y ∷ ys) place x all at = absurd all
  at_place first (suc count) [] place x all at = absurd all
  at_place first (suc count) (y ∷ ys) zero x all at =
      let same : y ≡ x = cc in
      subst (λ k. Is k x) (sym (add-zero first)) (subst (Is first) same all.0)
  at_place first (suc count) (y ∷ ys) (suc place) x all at =
      subst (λ k. Is k x) (omega arith) (at_place (first + 1) count ys place x all.1 at)

-- what holds of each number and item
pub weaker : {X : Type 0} (P Q : ℕ → X → Type 0) → ((n : ℕ) (x : X) → P n x → Q n x) → (first count : ℕ) (xs : List X) → AreFrom P first count xs → AreFrom Q first count xs
weaker P Q f first zero [] all = all
weaker P Q f first zero (x ∷ xs) all = absurd all
weaker P Q f first (suc count) [] all = absurd all
weaker P Q f first (suc count) (x ∷ xs) all = (f first x all.0, weaker P Q f (first + 1) count xs all.1)

module _ {X : Type 0} where
  drop_first : (n : ℕ) (xs ys : List X) (y : X) → drop n xs ≡ y ∷ ys → IsAt xs n y × (drop (suc n) xs ≡ ys)
  drop_first zero [] ys y e = absurd (cc)
  drop_first zero (x ∷ xs) ys y e = (ap (λ l. slice_get l 0) e, cc)
  drop_first (suc n) [] ys y e = absurd (cc)
  drop_first (suc n) (x ∷ xs) ys y e = drop_first n xs ys y e

  -- the next item of a list of which n were dealt
  pub next_at : (n : ℕ) (xs left later : List X) (x : X) → left ≡ drop n xs → left ≡ x ∷ later → IsAt xs n x × (later ≡ drop (n + 1) xs)
  next_at n xs left later x l e =
      let both = drop_first n xs later x (sym l ∙ e) in
      (both.0, rw (add-one n) (sym both.1))

  -- there is a next item
  pub next_left : (n : ℕ) (xs left : List X) → left ≡ drop n xs → n < length xs → 0 < length left
  next_left n xs left l lt =
      let long : length left ≡ length xs - n = ap length l ∙ length-drop n xs in
      omega arith

  -- what holds of each item holds of that at a place
  pub all_at : (P : X → Type 0) (xs : List X) (n : ℕ) (x : X) → All P xs → IsAt xs n x → P x
  all_at P [] n x all at = absurd (cc)
  all_at P (y ∷ ys) zero x all at =
      let same : y ≡ x = cc in
      subst P same (All-head P y ys all)
  all_at P (y ∷ ys) (suc n) x all at = all_at P ys n x (All-tail P y ys all) at

  -- a place in a list of which some were dealt
  pub at_dropped : (n : ℕ) (xs : List X) (place : ℕ) (x : X) → IsAt (drop n xs) place x → IsAt xs (n + place) x
  at_dropped zero xs place x at = subst (λ k. IsAt xs k x) (sym (zero-add place)) at
  at_dropped (suc n) [] place x at = absurd (cc)
  at_dropped (suc n) (y ∷ xs) place x at =
      let later : suc (n + place) ≡ suc n + place = omega arith in
      subst (λ k. IsAt (y ∷ xs) k x) later (at_dropped n xs place x at)

module _ {X Y : Type 0} (f : X → Y) (g : ℕ → Y) where
  -- what is made of the items is as it has to be for their numbers
  pub from_map : (first count : ℕ) (xs : List X) → map f xs ≡ map g (range_with_len first count) → AreFrom (λ n x. f x ≡ g n) first count xs
  from_map first zero [] e = tt
  from_map first zero (x ∷ xs) e = absurd (cc)
  from_map first (suc count) [] e = absurd (cc)
  from_map first (suc count) (x ∷ xs) e = (cc, from_map (first + 1) count xs (cc))

  pub to_map : (first count : ℕ) (xs : List X) → AreFrom (λ n x. f x ≡ g n) first count xs → map f xs ≡ map g (range_with_len first count)
  to_map first zero [] all = refl
  to_map first zero (x ∷ xs) all = absurd all
  to_map first (suc count) [] all = absurd all
  to_map first (suc count) (x ∷ xs) all = ap₂ (λ y ys. y ∷ ys) all.0 (to_map (first + 1) count xs all.1)

module _ {X : Type 0} (g : ℕ → X) where
  pub each_is : (first count : ℕ) (xs : List X) → xs ≡ map g (range_with_len first count) → AreFrom (λ n x. x ≡ g n) first count xs
  each_is first count xs e = from_map (λ x. x) g first count xs (map-id xs ∙ e)

  -- a list that is known place by place
  pub by_places : (first count : ℕ) (xs : List X) → length xs ≡ count → ((k : ℕ) → k < count → slice_get xs k ≡ Some (g (first + k))) → xs ≡ map g (range_with_len first count)
  by_places first zero [] long at = refl
  by_places first zero (x ∷ xs) long at = absurd (omega arith)
  by_places first (suc count) [] long at = absurd (omega arith)
  by_places first (suc count) (x ∷ xs) long at =
      let here : Some x ≡ Some (g first) = at 0 (omega arith) ∙ ap (λ k. Some (g k)) (add-zero first) in
      let later : (k : ℕ) → k < count → slice_get xs k ≡ Some (g (first + 1 + k)) = λ k lt. at (suc k) (omega arith) ∙ ap (λ j. Some (g j)) (omega arith) in
      ap₂ (λ y ys. y ∷ ys) (cc) (by_places (first + 1) count xs (omega arith) later)

  -- the same of the numbers from 0
  pub from_zero : (count : ℕ) (xs : List X) → length xs ≡ count → ((k : ℕ) → k < count → slice_get xs k ≡ Some (g k)) → xs ≡ map g (range_with_len 0 count)
  from_zero count xs long at = by_places 0 count xs long (λ k lt. at k lt ∙ ap (λ j. Some (g j)) (sym (zero-add k)))

module _ {X : Type 0} (Is : ℕ → X → Type 0) where
  -- the item at a place, where the numbers begin with 0
  pub placed : (count : ℕ) (xs : List X) (place : ℕ) (x : X) → AreFrom Is 0 count xs → IsAt xs place x → Is place x
  placed count xs place x all at = subst (λ k. Is k x) (zero-add place) (at_place Is 0 count xs place x all at)

  -- one item more, where the numbers begin with 0
  pub added : (count : ℕ) (xs more : List X) (x : X) → AreFrom Is 0 count xs → more ≡ xs ++ x ∷ [] → Is count x → AreFrom Is 0 (count + 1) more
  added count xs more x all m is = one_more Is 0 count xs more x all m (subst (λ k. Is k x) (sym (zero-add count)) is)

  -- what holds of each item
  pub of_each : (P : X → Type 0) → ((n : ℕ) (x : X) → Is n x → P x) → (first count : ℕ) (xs : List X) → AreFrom Is first count xs → All P xs
  of_each P f first zero [] all = All-nil P
  of_each P f first zero (x ∷ xs) all = absurd all
  of_each P f first (suc count) [] all = absurd all
  of_each P f first (suc count) (x ∷ xs) all = All-cons P x xs (f first x all.0) (of_each P f (first + 1) count xs all.1)

  -- so many items, and so many more behind them
  pub joined : (first count more : ℕ) (xs ys : List X) → AreFrom Is first count xs → AreFrom Is (first + count) more ys → AreFrom Is first (count + more) (xs ++ ys)
  joined first zero more [] ys all behind =
      subst (λ k. AreFrom Is first k ys) (sym (zero-add more)) (subst (λ k. AreFrom Is k more ys) (add-zero first) behind)
  joined first zero more (x ∷ xs) ys all behind = absurd all
  joined first (suc count) more [] ys all behind = absurd all
  joined first (suc count) more (x ∷ xs) ys all behind =
      let longer : suc (count + more) ≡ suc count + more = omega arith in
      subst (λ k. AreFrom Is first k (x ∷ (xs ++ ys))) longer
      (all.0, joined (first + 1) count more xs ys all.1 (subst (λ k. AreFrom Is k more ys) (omega arith) behind))

  -- numbers that begin further on
  pub shifted : (by first count : ℕ) (xs : List X) → AreFrom (λ n. Is (by + n)) first count xs → AreFrom Is (by + first) count xs
  shifted by first zero [] all = tt
  shifted by first zero (x ∷ xs) all = absurd all
  shifted by first (suc count) [] all = absurd all
  shifted by first (suc count) (x ∷ xs) all =
      let next : by + (first + 1) ≡ by + first + 1 = omega arith in
      (all.0, subst (λ k. AreFrom Is k count xs) next (shifted by (first + 1) count xs all.1))

-- so many items of which all are the same in what matters
pub alike : {X : Type 0} (P : X → Type 0) (first count : ℕ) (xs : List X) → length xs ≡ count → All P xs → AreFrom (λ n. P) first count xs
alike P first zero [] long all = tt
alike P first zero (x ∷ xs) long all = absurd (omega arith)
alike P first (suc count) [] long all = absurd (omega arith)
alike P first (suc count) (x ∷ xs) long all = (All-head P x xs all, alike P (first + 1) count xs (omega arith) (All-tail P x xs all))
