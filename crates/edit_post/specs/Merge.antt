-- A merge of several lists.
use Rattle.std.specs.Prelude.{◌≡◌, ℕ, ◌<◌, List, [], ◌∷◌, length, slice_index_or, slice_set}

-- All lists and the merge are empty, or the first of the merge is the first of one of the lists and the rest of it is a merge of what remains.
abbrev pub Merge : {E : Type 0} → List (List E) → List E → Type 0
Merge {E} lists [] = (k : ℕ) → k < length lists → slice_index_or lists k [] ≡ []
Merge {E} lists (x ∷ xs) = (k : ℕ) × (rest : List E) × (k < length lists) × (slice_index_or lists k [] ≡ x ∷ rest) × Merge (slice_set lists k rest) xs
