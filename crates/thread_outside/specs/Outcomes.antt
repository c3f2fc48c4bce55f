-- What a thread of a team owes.
use Rattle.std.specs.Prelude.{◌≡◌}
use Rattle.thread_outside.specs.declared.outcome.Outcome.{Outcome}
use Rattle.thread_outside.specs.declared.outcome.Outcome.TheVariants.{Ran, Back}

-- what the task may give, or the task
abbrev pub IsOutcome : {T D : Type 0} → (T → D → Type 0) → T → Outcome T D → Type 0
IsOutcome gives task (Ran done) = gives task done
IsOutcome gives task (Back t) = t ≡ task
