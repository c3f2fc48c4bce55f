-- The lines of a file: each ends with a line feed, which the last may lack.
use Rattle.std.specs.Prelude.{◌≢◌, ℕ, ◌<◌, ◌==◌, List, [], ◌∷◌, ◌++◌, length, slice_index, if◌then◌else◌}

-- the lines among bytes that end with a line feed, after part of the first
abbrev pub whole_from : List ℕ → List ℕ → List (List ℕ)
whole_from part [] = []
whole_from part (b ∷ bs) = if b == 10 then part ∷ whole_from [] bs else whole_from (part ++ b ∷ []) bs

-- what follows the last line feed
abbrev pub tail_from : List ℕ → List ℕ → List ℕ
tail_from part [] = part
tail_from part (b ∷ bs) = if b == 10 then tail_from [] bs else tail_from (part ++ b ∷ []) bs

abbrev pub whole_lines : List ℕ → List (List ℕ)
whole_lines bytes = whole_from [] bytes

abbrev pub tail : List ℕ → List ℕ
tail bytes = tail_from [] bytes

-- a last line without a line feed is one where it has a byte
abbrev pub last_line : List ℕ → List (List ℕ)
last_line [] = []
last_line (b ∷ bs) = (b ∷ bs) ∷ []

abbrev pub lines_of : List ℕ → List (List ℕ)
lines_of bytes = whole_lines bytes ++ last_line (tail bytes)

-- a piece of a line: no byte of it is a line feed
abbrev pub IsPiece : List ℕ → Type 0
IsPiece bytes = (k : ℕ) → k < length bytes → slice_index bytes k ≢ 10
