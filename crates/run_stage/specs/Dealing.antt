-- How the items of a list go to several holders in turn.
use Rattle.std.specs.Prelude.{◌≡◌, ℕ, zero, suc, List, [], ◌∷◌, Some, slice_get}
use Rattle.std.specs.List.{range_with_len, AllZip}

-- the items at even places, from 0
abbrev pub evens : {X : Type 0} → List X → List X
evens [] = []
evens (x ∷ []) = x ∷ []
evens (x ∷ y ∷ xs) = x ∷ evens xs

-- the items at odd places
abbrev pub odds : {X : Type 0} → List X → List X
odds [] = []
odds (x ∷ []) = []
odds (x ∷ y ∷ xs) = y ∷ odds xs

-- what the first of two holders gets, and what the second gets, if the items go to them in turn
abbrev pub dealt_to : {X : Type 0} → ℕ → List X → List X
dealt_to zero xs = evens xs
dealt_to (suc n) xs = odds xs

-- so many items, of which each is as it has to be for its number; the first has the number `first`
abbrev pub AreFrom : {X : Type 0} → (ℕ → X → Type 0) → ℕ → ℕ → List X → Type 0
AreFrom Is first count items = AllZip Is (range_with_len first count) items

-- the item at this place of the list
abbrev pub IsAt : {X : Type 0} → List X → ℕ → X → Type 0
IsAt xs place x = slice_get xs place ≡ Some x

-- ---- internal: cited by private functions only

-- two lists as a list of pairs, as far as both go
abbrev pub paired : {X : Type 0} → List X → List X → List (List X)
paired [] ys = []
paired (x ∷ xs) [] = []
paired (x ∷ xs) (y ∷ ys) = (x ∷ y ∷ []) ∷ paired xs ys
