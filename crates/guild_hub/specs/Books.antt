-- The rule of a history that one word counts, and what a step on the word tells.
use Rattle.std.specs.Prelude.{◌≡◌, ℕ, List, [], ◌∷◌, ◌++◌, length, true}
use Rattle.logbook.specs.Pages.{Cell, Step, View, Book, Named}

-- the first word is the length of the history; the second is not used
pub record IsCounted {E : Type 0} (may_be : List E → Type 0) (cells : List Cell) (log : List E) : Type 0 where
  pub words : cells ≡ (length log, true) ∷ (0, true) ∷ []
  pub legal : may_be log

-- the first word of a history
abbrev pub counter_of : Book → Named
counter_of book = record { tracked = true; key = 0; book = book }

-- if the number found is the one expected, the item was added to all that had been seen
abbrev pub Adds : {E : Type 0} → (List E → Type 0) → Step E → View E ℕ → ℕ → View E ℕ → Type 0
Adds may_be s v found w = found ≡ s.old → (w.0 ≡ v.0 ++ s.ask ∷ []) × may_be w.0
