-- The names of steps.
use Rattle.std.specs.Prelude.{ℕ, List, [], ◌∷◌, Bool, true, false, Option, codes}
use Rattle.std.specs.List.{find}
use Rattle.std.specs.Str.{bytes_eq}
use Rattle.edit_text.specs.declared.step_name.StepName.{StepName}
use Rattle.edit_text.specs.declared.step_name.StepName.TheVariants as step

abbrev pub step_text : StepName → List ℕ
step_text step.Bot = codes "bot"
step_text step.Guild = codes "guild"
step_text step.Edit = codes "edit"
step_text step.Look = codes "look"
step_text step.Open = codes "open"
step_text step.Frame = codes "frame"
step_text step.Lost = codes "lost"
step_text step.Closed = codes "closed"
step_text step.Tick = codes "tick"

abbrev pub steps : List StepName
steps =
    step.Bot ∷ step.Guild ∷ step.Edit ∷ step.Look ∷ step.Open
    ∷ step.Frame ∷ step.Lost ∷ step.Closed ∷ step.Tick ∷ []

-- the step of this name
unfoldable pub step_named : List ℕ → Option StepName
step_named s = find (λ n. bytes_eq s (step_text n)) steps

-- the lines that come before all others
abbrev pub is_head : StepName → Bool
is_head step.Bot = true
is_head step.Guild = true
is_head step.Edit = false
is_head step.Look = false
is_head step.Open = false
is_head step.Frame = false
is_head step.Lost = false
is_head step.Closed = false
is_head step.Tick = false
