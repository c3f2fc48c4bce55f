-- Lists over a range that is one longer.
use Rattle.std.proofs.Common.{◌≡◌, ℕ, ◌+◌, List, [], ◌∷◌, ◌++◌, map, sym, ap, ◌∙◌, arith, append_assoc}
use Rattle.std.specs.Prelude.{flat_map}
use Rattle.std.specs.List.{range_with_len}
use Rattle.std.proofs.lemmas.List.FromFn.{map-range_with_len_more}
use Rattle.std.proofs.lemmas.List.Folds.{flat_map-map}
use Rattle.std.proofs.lemmas.List.{append-nil}
use Rattle.std.proofs.lemmas.Grind.{flat_map-append}

pub map_more : {T : Type 0} (f : ℕ → T) (old now after : List T) (item : T) (n : ℕ) → now ≡ old ++ map f (range_with_len 1 n) → after ≡ now ++ item ∷ [] → item ≡ f (n + 1) → after ≡ old ++ map f (range_with_len 1 (n + 1))
map_more f old now after item n so_far pushed is =
    pushed
    ∙ (ap (λ x. now ++ x ∷ []) is
    ∙ (ap (λ xs. xs ++ f (n + 1) ∷ []) so_far
    ∙ (append_assoc old (map f (range_with_len 1 n)) (f (n + 1) ∷ [])
    ∙ ap (λ xs. old ++ xs) (sym (map-range_with_len_more f 1 n (n + 1) (omega arith))))))

module _ {T : Type 0} (f : ℕ → List T) where
  same_items : (xs : List ℕ) → flat_map f (map (λ x. x) xs) ≡ flat_map f xs
  same_items xs = flat_map-map f (λ x. x) xs

  one_more : (n : ℕ) → flat_map f (range_with_len 0 (n + 1)) ≡ flat_map f (range_with_len 0 n) ++ f n
  one_more n =
      let before = range_with_len 0 n in
      sym (same_items (range_with_len 0 (n + 1)))
      ∙ (ap (λ xs. flat_map f xs) (map-range_with_len_more (λ x. x) 0 n n (omega arith))
      ∙ (flat_map-append f (map (λ x. x) before) (n ∷ [])
      ∙ (ap (λ xs. xs ++ (f n ++ [])) (same_items before)
      ∙ ap (λ xs. flat_map f before ++ xs) (append-nil (f n)))))

  pub pair_more : (old now first second : List T) (a b : T) (n : ℕ) → now ≡ old ++ flat_map f (range_with_len 0 n) → first ≡ now ++ a ∷ [] → second ≡ first ++ b ∷ [] → f n ≡ a ∷ b ∷ [] → second ≡ old ++ flat_map f (range_with_len 0 (n + 1))
  pair_more old now first second a b n so_far pushed_a pushed_b pair =
      pushed_b
      ∙ (ap (λ xs. xs ++ b ∷ []) pushed_a
      ∙ (append_assoc now (a ∷ []) (b ∷ [])
      ∙ (ap (λ xs. now ++ xs) (sym pair)
      ∙ (ap (λ xs. xs ++ f n) so_far
      ∙ (append_assoc old (flat_map f (range_with_len 0 n)) (f n)
      ∙ ap (λ xs. old ++ xs) (sym (one_more n)))))))
