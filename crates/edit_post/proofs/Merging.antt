-- Merges: a list is one of its parts by a key, and what a filter or a function leaves of a merge is a merge of what it leaves of each list.
use Rattle.std.proofs.Common.{◌≡◌, ◌≢◌, ℕ, zero, suc, ◌<◌, ◌==◌, Bool, true, false, List, [], ◌∷◌, map, length, get_or, set, cond, eqb, sym, refl, ap, ◌∙◌, subst, ⊎_elim, get_or-set_same, get_or-set_other, arith, length-set}
use Rattle.std.specs.List.{filter, range_with_len, All}
use Rattle.std.proofs.lemmas.Bool.Decides.{Decides-eqb, eqb_tells}
use Rattle.std.proofs.lemmas.List.{set-get_or}
use Rattle.std.proofs.lemmas.List.FromFn.{length-map-range_with_len, get_or-map-range_with_len}
use Rattle.edit_post.specs.Merge.{Merge}

module _ {E : Type 0} (key : E → ℕ) where
  abbrev pub part : ℕ → List E → List E
  part p xs = filter (λ (x : E). key x == p) xs

  own : (p : ℕ) (x : E) (xs : List E) → key x ≡ p → part p (x ∷ xs) ≡ x ∷ part p xs
  own p x xs e = ap (λ c. cond c (x ∷ part p xs) (part p xs)) ((Decides-eqb (key x) p).1 e)

  other : (p : ℕ) (x : E) (xs : List E) → key x ≢ p → part p (x ∷ xs) ≡ part p xs
  other p x xs n = ap (λ c. cond c (x ∷ part p xs) (part p xs)) (⊎_elim (λ (t : (eqb (key x) p ≡ true) × (key x ≡ p)). absurd (n t.1)) (λ (t : (eqb (key x) p ≡ false) × (key x ≢ p)). t.0) (eqb_tells (key x) p))

  of_parts : (lists : List (List E)) (xs : List E) → All (λ (x : E). key x < length lists) xs → ((k : ℕ) → k < length lists → get_or lists k [] ≡ part k xs) → Merge lists xs
  of_parts lists [] low h = h
  of_parts lists (x ∷ xs) low h =
      let k = key x in
      let here : k < length lists = low 0 x (omega arith) in
      let rest : List E = part k xs in
      let next : List (List E) = set lists k rest in (
        k,
        rest,
        here,
        h k here ∙ own k x xs refl,
        of_parts next xs (λ i d lt. subst (λ (n : ℕ). key (get_or xs i d) < n) (sym (length-set lists k rest)) (low (suc i) d (omega arith)))
            (λ j lt. ⊎_elim
            (λ (t : (eqb j k ≡ true) × (j ≡ k)). ap (λ i. get_or next i []) t.1 ∙ get_or-set_same lists k rest [] here ∙ ap (λ i. part i xs) (sym t.1))
            (λ (t : (eqb j k ≡ false) × (j ≢ k)). get_or-set_other lists k j rest [] t.1 ∙ h j (omega (arith, length-set lists k rest)) ∙ other j x xs (λ e. t.1 (sym e))) (eqb_tells j k)),
      )

  -- the parts of n keys
  pub merges : (n : ℕ) (xs : List E) → All (λ (x : E). key x < n) xs → Merge (map (λ p. part p xs) (range_with_len 0 n)) xs
  merges n xs low =
      let many = length-map-range_with_len (λ p. part p xs) 0 n in
      of_parts (map (λ p. part p xs) (range_with_len 0 n)) xs (λ i d lt. subst (λ (m : ℕ). key (get_or xs i d) < m) (sym many) (low i d lt))
      (λ k lt. get_or-map-range_with_len (λ p. part p xs) 0 n k k [] (omega (arith, many)) (omega arith))

module _ {E F : Type 0} (f : List E → List F) (empty : f [] ≡ []) where
  at : (lists : List (List E)) (k : ℕ) → get_or (map f lists) k [] ≡ f (get_or lists k [])
  at [] k = sym empty
  at (l ∷ ls) zero = refl
  at (l ∷ ls) (suc k) = at ls k

  map_set : (lists : List (List E)) (k : ℕ) (l : List E) → map f (set lists k l) ≡ set (map f lists) k (f l)
  map_set [] k l = refl
  map_set (x ∷ ls) zero l = refl
  map_set (x ∷ ls) (suc k) l = ap (λ t. f x ∷ t) (map_set ls k l)

  many : (lists : List (List E)) → length (map f lists) ≡ length lists
  many [] = refl
  many (l ∷ ls) = ap suc (many ls)

module _ {E : Type 0} (p : E → Bool) where
  passed : (x : E) (xs : List E) → p x ≡ true → filter p (x ∷ xs) ≡ x ∷ filter p xs
  passed x xs e = ap (λ c. cond c (x ∷ filter p xs) (filter p xs)) e

  left_out : (x : E) (xs : List E) → p x ≡ false → filter p (x ∷ xs) ≡ filter p xs
  left_out x xs e = ap (λ c. cond c (x ∷ filter p xs) (filter p xs)) e

  -- what passes a test
  pub filtered : (lists : List (List E)) (xs : List E) → Merge lists xs → Merge (map (filter p) lists) (filter p xs)
  filtered lists [] m = λ k lt. at (filter p) refl lists k ∙ ap (filter p) (m k (omega (arith, many (filter p) refl lists)))
  filtered lists (x ∷ xs) m =
      let k = m.0 in
      let rest : List E = m.1 in
      let next : Merge (set (map (filter p) lists) k (filter p rest)) (filter p xs) = subst (λ (ls : List (List E)). Merge ls (filter p xs)) (map_set (filter p) refl lists k rest) (filtered (set lists k rest) xs m.4) in
      let first : get_or (map (filter p) lists) k [] ≡ filter p (x ∷ rest) = at (filter p) refl lists k ∙ ap (filter p) m.3 in
      go (p x) refl k rest (omega (arith, many (filter p) refl lists, m.2)) next first
    where
      go : (b : Bool) → p x ≡ b → (k : ℕ) (rest : List E) → k < length (map (filter p) lists) → Merge (set (map (filter p) lists) k (filter p rest)) (filter p xs) → get_or (map (filter p) lists) k [] ≡ filter p (x ∷ rest) → Merge (map (filter p) lists) (filter p (x ∷ xs))
      go true e k rest here next first = subst (λ (ys : List E). Merge (map (filter p) lists) ys) (sym (passed x xs e)) (k, filter p rest, here, first ∙ passed x rest e, next)
      go false e k rest here next first =
          subst (λ (ys : List E). Merge (map (filter p) lists) ys) (sym (left_out x xs e))
          (subst (λ (ls : List (List E)). Merge ls (filter p xs)) (ap (λ l. set (map (filter p) lists) k l) (sym (first ∙ left_out x rest e)) ∙ set-get_or (map (filter p) lists) k []) next)

-- what a function makes of each element
pub mapped : {E F : Type 0} (g : E → F) (lists : List (List E)) (xs : List E) → Merge lists xs → Merge (map (map g) lists) (map g xs)
mapped g lists [] m = λ k lt. at (map g) refl lists k ∙ ap (map g) (m k (omega (arith, many (map g) refl lists)))
mapped g lists (x ∷ xs) m = (
  m.0,
  map g m.1,
  omega (arith, many (map g) refl lists, m.2),
  at (map g) refl lists m.0 ∙ ap (map g) m.3,
  subst (λ ls. Merge ls (map g xs)) (map_set (map g) refl lists m.0 m.1) (mapped g (set lists m.0 m.1) xs m.4),
)
