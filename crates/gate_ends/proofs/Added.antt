-- What is added to lists, part by part.
use Rattle.std.proofs.Common.{◌≡◌, ℕ, zero, suc, ◌≤◌, List, [], ◌∷◌, ◌++◌, map, flat_map, drop, length, refl, sym, ap, ◌∙◌, arith, append_assoc}
use Rattle.std.proofs.lemmas.List.{map-append}
use Rattle.std.proofs.lemmas.List.Concat.{flat_map-append}

-- what was made of some items, and then of others, was made of all
pub one_more : {T X : Type 0} (g : T → List X) (xs ys : List T) (old mid new : List X) → mid ≡ old ++ flat_map g xs → new ≡ mid ++ flat_map g ys → new ≡ old ++ flat_map g (xs ++ ys)
one_more g xs ys old mid new a b = b ∙ ap (λ l. l ++ flat_map g ys) a ∙ append_assoc old (flat_map g xs) (flat_map g ys) ∙ ap (λ l. old ++ l) (sym (flat_map-append g xs ys))

pub one_more_of : {T X Y : Type 0} (f : X → Y) (g : T → List X) (xs ys : List T) (old mid new : List Y) → mid ≡ old ++ map f (flat_map g xs) → new ≡ mid ++ map f (flat_map g ys) → new ≡ old ++ map f (flat_map g (xs ++ ys))
one_more_of f g xs ys old mid new a b =
    b ∙ ap (λ l. l ++ map f (flat_map g ys)) a ∙ append_assoc old (map f (flat_map g xs)) (map f (flat_map g ys))
    ∙ ap (λ l. old ++ l) (sym (ap (map f) (flat_map-append g xs ys) ∙ map-append f (flat_map g xs) (flat_map g ys)))

-- nothing is left past the end
pub drop_end : {T : Type 0} (xs : List T) (i : ℕ) → length xs ≤ i → drop i xs ≡ []
drop_end [] zero le = refl
drop_end [] (suc i) le = refl
drop_end (x ∷ xs) zero le = absurd (omega (arith, le))
drop_end (x ∷ xs) (suc i) le = drop_end xs i (omega (arith, le))
