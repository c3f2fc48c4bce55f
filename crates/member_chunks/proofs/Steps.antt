-- Parts of lists, in another form.
use Rattle.std.proofs.Common.{◌≡◌, ℕ, ◌+◌, ◌-◌, ◌<◌, List, [], ◌∷◌, ◌++◌, map, length, take, drop, get_or, Option, Some, None, sym, ap, ◌∙◌, arith}
use Rattle.std.specs.Prelude.{min, filter_map}
use Rattle.std.specs.List.{cons_option}
use Rattle.std.proofs.lemmas.List.{append-nil, map-append, length-drop, take_min, drop_min, take_more, take-map, drop-map}
use Rattle.std.proofs.lemmas.List.Elements.{filter_map-append}

module _ {X Y : Type 0} (f : X → Y) (xs : List X) where
  -- at most 1,000 from a place on
  pub piece : (n start end : ℕ) → start ≡ min n (length xs) → end ≡ min (start + 1000) (length xs)
      → map f (take (end - start) (drop start xs)) ≡ take 1000 (drop n (map f xs))
  piece n start end at to =
      let long : length (drop start xs) ≡ length xs - start = length-drop start xs in
      let most : end - start ≡ min 1000 (length (drop start xs)) = omega (arith, at, to, long) in
      ap (λ k. map f (take k (drop start xs))) most
      ∙ (ap (map f) (take_min 1000 (drop start xs))
      ∙ (ap (λ ys. map f (take 1000 ys)) (ap (λ k. drop k xs) at ∙ drop_min n xs)
      ∙ (sym (take-map f 1000 (drop n xs)) ∙ ap (take 1000) (sym (drop-map f n xs)))))

-- the parts of the items so far, and of one more
module _ {X M R : Type 0} (part : X → Option M) (now : R → M) (xs : List X) (i : ℕ) (x : X) (lt : i < length xs) (here : get_or xs i x ≡ x) (list : List R) (was : map now list ≡ filter_map part (take i xs)) where
  more : filter_map part (take (i + 1) xs) ≡ filter_map part (take i xs) ++ cons_option (part x) []
  more =
      ap (filter_map part) (take_more xs i x lt)
      ∙ (filter_map-append part (take i xs) (get_or xs i x ∷ [])
      ∙ ap (λ y. filter_map part (take i xs) ++ cons_option (part y) []) here)

  pub part_comes : (r : R) → part x ≡ Some (now r) → map now (list ++ r ∷ []) ≡ filter_map part (take (i + 1) xs)
  part_comes r is =
      map-append now list (r ∷ [])
      ∙ (ap (λ ys. ys ++ now r ∷ []) was
      ∙ (ap (λ o. filter_map part (take i xs) ++ cons_option o []) (sym is) ∙ sym more))

  pub no_part : part x ≡ None → map now list ≡ filter_map part (take (i + 1) xs)
  no_part is =
      was
      ∙ (sym (append-nil (filter_map part (take i xs)))
      ∙ (ap (λ o. filter_map part (take i xs) ++ cons_option o []) (sym is) ∙ sym more))
