-- Lists that are joined from two.
use Rattle.std.proofs.Common.{◌≡◌, List, [], ◌∷◌, ◌++◌, map, refl, ap}
use Rattle.std.specs.Prelude.{All}
use Rattle.std.proofs.lemmas.List.Elements.{All-head, All-tail}

pub append_none : {A : Type 0} (xs : List A) → xs ++ [] ≡ xs
append_none [] = refl
append_none (x ∷ xs) = ap (λ ys. x ∷ ys) (append_none xs)

pub map_join : {A B : Type 0} (f : A → B) (xs ys : List A) → map f (xs ++ ys) ≡ map f xs ++ map f ys
map_join f [] ys = refl
map_join f (x ∷ xs) ys = ap (λ zs. f x ∷ zs) (map_join f xs ys)

pub all_at : {A : Type 0} (P : A → Type 0) (front : List A) (x : A) (rest : List A) → All P (front ++ x ∷ rest) → P x
all_at P [] x rest all = All-head P x rest all
all_at P (f ∷ front) x rest all = all_at P front x rest (All-tail P f (front ++ x ∷ rest) all)

-- where a list that is joined from two is split
pub by_split : {A : Type 0} (C : Type 0) (xs ys front : List A) (d : A) (rest : List A) → xs ++ ys ≡ front ++ d ∷ rest
    → ((mid : List A) → rest ≡ mid ++ ys → xs ≡ front ++ d ∷ mid → C)
    → ((mid : List A) → front ≡ xs ++ mid → ys ≡ mid ++ d ∷ rest → C) → C
by_split C [] ys front d rest e left right = right front refl e
by_split C (x ∷ xs) ys [] d rest e left right = left xs (cc) (cc)
by_split C (x ∷ xs) ys (f ∷ front) d rest e left right =
    by_split C xs ys front d rest (cc)
    (λ mid a b. left mid a (cc))
    (λ mid a b. right mid (cc) b)
