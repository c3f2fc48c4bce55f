-- The history of the mark by which a writer tells that it has quit: the steps on its word.
use Rattle.std.specs.Prelude.{◌≡◌, ℕ, List, [], ◌∷◌, ◌++◌, Bool, true, false}
use mathlib.Core.List.{IsPrefix}
use Rattle.logbook.specs.Pages.{Cell, Step, View}
use Rattle.guild_hub.specs.declared.mark_step.MarkStep.{MarkStep}
use Rattle.guild_hub.specs.declared.mark_step.MarkStep.TheVariants.{Store, Load}

-- whether the mark was stored
abbrev pub has_store : List MarkStep → Bool
has_store [] = false
has_store (Store ∷ steps) = true
has_store (Load ∷ steps) = has_store steps

-- the history went on, and its last step is a load that came after all that was known of it
abbrev pub EndsWithLoad : List MarkStep → List MarkStep → Type 0
EndsWithLoad before after = (earlier : List MarkStep) × IsPrefix before earlier × (after ≡ earlier ++ Load ∷ [])

-- the word is 1 exactly if the mark was stored
abbrev pub word_of : Bool → ℕ
word_of true = 1
word_of false = 0

-- the first word is that of the mark; the second is not used
pub record IsMark (cells : List Cell) (steps : List MarkStep) : Type 0 where
  pub words : cells ≡ (word_of (has_store steps), true) ∷ (0, true) ∷ []

-- whatever number was found, the mark is stored
abbrev pub Stores : Step MarkStep → View MarkStep ℕ → ℕ → View MarkStep ℕ → Type 0
Stores s v found w = has_store w.0 ≡ true

-- the load is kept, and what it found tells whether the mark was stored before it
abbrev pub Loads : Step MarkStep → View MarkStep ℕ → ℕ → View MarkStep ℕ → Type 0
Loads s v found w = EndsWithLoad v.0 w.0 × (found ≡ word_of (has_store w.0))
