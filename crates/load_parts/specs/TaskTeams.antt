-- Teams that start and end tasks by functions.
use Rattle.std.specs.Prelude.{◌≡◌, Result, Ok, Err, IfOk, IfErr}
use Rattle.gate_outside.specs.FaultPlans.{Plan, after_call, after_failed_call}
use Rattle.gate_outside.specs.Spawners.{after_start}
use Rattle.thread_outside.specs.Teams.{TeamState}

-- the function may be called with every task, and gives the task started, or the task itself
abbrev pub StartsTasks : {S T H : Type 0} → (S → T → Type 0) → (S → T → Result H T → Type 0) → (H → T) → S → Type 0
StartsTasks {S} {T} {H} accepts gives task_of s = ((t : T) → accepts s t)
    × ((t : T) (r : Result H T) → gives s t r → IfOk r (λ h. task_of h ≡ t) × IfErr r (λ back. back ≡ t))

-- the function may be called with every task that was started, and gives what that task may give
abbrev pub EndsTasks : {S T H D : Type 0} → (S → H → Type 0) → (S → H → D → Type 0) → (T → D → Type 0) → (H → T) → S → Type 0
EndsTasks {S} {T} {H} {D} accepts gives task_gives task_of s = ((h : H) → accepts s h)
    × ((h : H) (d : D) → gives s h d → task_gives (task_of h) d)

-- the plan after a start, which counts as failed if the task came back
abbrev pub plan_after : {T H : Type 0} → Plan → Result H T → Plan
plan_after p (Ok held) = after_call p
plan_after p (Err task) = after_failed_call p

-- after a start
abbrev pub after_asked : {T H : Type 0} → TeamState → Result H T → TeamState
after_asked s r = record { starts = after_start s.starts; plan = plan_after s.plan r }
