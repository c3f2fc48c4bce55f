-- Which messages stand in which channel, as pairs of a channel and an id.
use Rattle.std.specs.Prelude.{◌≡◌, ℕ, ◌==◌, Bool, false, not, ◌&&◌, ◌||◌, List, [], ◌∷◌}

-- whether the message of an id is said to stand in a channel
abbrev pub is_indexed : List (ℕ × ℕ) → ℕ → ℕ → Bool
is_indexed [] channel id = false
is_indexed (p ∷ ps) channel id = (p.0 == channel && p.1 == id) || is_indexed ps channel id

-- one more is said to stand there, and nothing else changes
abbrev pub Joins : List (ℕ × ℕ) → ℕ → ℕ → List (ℕ × ℕ) → Type 0
Joins old channel id new = (p i : ℕ) → is_indexed new p i ≡ ((channel == p && id == i) || is_indexed old p i)

-- one is no longer said to stand there, and nothing else changes
abbrev pub Leaves : List (ℕ × ℕ) → ℕ → ℕ → List (ℕ × ℕ) → Type 0
Leaves old channel id new = (p i : ℕ) → is_indexed new p i ≡ (not (channel == p && id == i) && is_indexed old p i)

-- nothing is said to stand in a channel
abbrev pub IsBare : List (ℕ × ℕ) → ℕ → Type 0
IsBare ps channel = (id : ℕ) → is_indexed ps channel id ≡ false
