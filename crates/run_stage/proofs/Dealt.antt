-- Lists that are dealt to several holders in turn.
use Rattle.std.proofs.Common.{◌≡◌, List, [], ◌∷◌, ◌++◌, map, take, drop, refl, sym, ap, ◌∙◌, append_assoc}
use Rattle.run_ends.specs.Lists.{woven}
use Rattle.run_stage.specs.Dealing.{evens, odds, paired}

evens_on : {X : Type 0} (xs : List X) → evens xs ≡ take 1 xs ++ evens (drop 1 (drop 1 xs))
evens_on [] = refl
evens_on (x ∷ []) = refl
evens_on (x ∷ y ∷ xs) = refl

odds_on : {X : Type 0} (xs : List X) → odds xs ≡ take 1 (drop 1 xs) ++ odds (drop 1 (drop 1 xs))
odds_on [] = refl
odds_on (x ∷ []) = refl
odds_on (x ∷ y ∷ xs) = refl

-- one step further in a list that is made from what is left
on : {X : Type 0} (old new more rest rest_after whole : List X) → new ≡ old ++ more → rest ≡ more ++ rest_after → old ++ rest ≡ whole → new ++ rest_after ≡ whole
on old new more rest rest_after whole n r w =
    ap (λ l. l ++ rest_after) n ∙ append_assoc old more rest_after ∙ ap (λ l. old ++ l) (sym r) ∙ w

-- one round of dealing in two
pub round : {X : Type 0} (whole left once after first first_more second second_more : List X)
    → (first_more ≡ first ++ take 1 left) × (once ≡ drop 1 left) → (second_more ≡ second ++ take 1 once) × (after ≡ drop 1 once)
    → first ++ evens left ≡ evens whole → second ++ odds left ≡ odds whole
    → (first_more ++ evens after ≡ evens whole) × (second_more ++ odds after ≡ odds whole)
round whole left once after first first_more second second_more one other so_far too =
    let two : after ≡ drop 1 (drop 1 left) = other.1 ∙ ap (λ l. drop 1 l) one.1 in
    let to_second : second_more ≡ second ++ take 1 (drop 1 left) = other.0 ∙ ap (λ l. second ++ take 1 l) one.1 in (
      on first first_more (take 1 left) (evens left) (evens after) (evens whole) one.0 (rw two (evens_on left)) so_far,
      on second second_more (take 1 (drop 1 left)) (odds left) (odds after) (odds whole) to_second (rw two (odds_on left)) too,
    )

-- what was dealt in turn, woven again, is the list
pub woven_back : {X : Type 0} (xs : List X) → woven (evens xs) (odds xs) ≡ xs
woven_back [] = refl
woven_back (x ∷ []) = refl
woven_back (x ∷ y ∷ xs) = ap (λ l. x ∷ y ∷ l) (woven_back xs)

pub map-evens : {X Y : Type 0} (f : X → Y) (xs : List X) → map f (evens xs) ≡ evens (map f xs)
map-evens f [] = refl
map-evens f (x ∷ []) = refl
map-evens f (x ∷ y ∷ xs) = ap (λ l. f x ∷ l) (map-evens f xs)

pub map-odds : {X Y : Type 0} (f : X → Y) (xs : List X) → map f (odds xs) ≡ odds (map f xs)
map-odds f [] = refl
map-odds f (x ∷ []) = refl
map-odds f (x ∷ y ∷ xs) = ap (λ l. f y ∷ l) (map-odds f xs)

pub paired-map : {X Y : Type 0} (f g : X → Y) (xs : List X) → paired (map f xs) (map g xs) ≡ map (λ x. f x ∷ g x ∷ []) xs
paired-map f g [] = refl
paired-map f g (x ∷ xs) = ap (λ l. (f x ∷ g x ∷ []) ∷ l) (paired-map f g xs)
