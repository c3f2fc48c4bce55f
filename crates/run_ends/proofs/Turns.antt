-- Two lists in turn, from their ends.
use Rattle.std.proofs.Common.{◌≡◌, List, [], ◌∷◌, ◌++◌, reverse, refl, sym, ap, ◌∙◌, append_assoc}
use Rattle.std.proofs.lemmas.List.{reverse-append}
use Rattle.run_ends.specs.Lists.{woven}

woven_none : {T : Type 0} (xs : List T) → woven xs [] ≡ xs
woven_none [] = refl
woven_none (x ∷ xs) = refl

-- one item of the first list, where the second has ended
pub one_of_first : {T : Type 0} (all more first left second none whole : List T) (x : T) → more ≡ all ++ x ∷ [] → first ≡ left ++ x ∷ [] → second ≡ [] → none ≡ []
    → all ++ woven (reverse first) (reverse second) ≡ whole → more ++ woven (reverse left) (reverse none) ≡ whole
one_of_first all more first left second none whole x m f s n inv =
    ap (λ l. more ++ woven (reverse left) (reverse l)) n
    ∙ ap (λ l. more ++ l) (woven_none (reverse left))
    ∙ ap (λ l. l ++ reverse left) m
    ∙ append_assoc all (x ∷ []) (reverse left)
    ∙ ap (λ l. all ++ woven l []) (sym (ap reverse f ∙ reverse-append left (x ∷ [])))
    ∙ ap (λ l. all ++ woven (reverse first) (reverse l)) (sym s)
    ∙ inv
