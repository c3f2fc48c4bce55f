-- The faults of what lies below, as faults of a worker.
use Rattle.std.specs.Prelude.{◌≡◌, ℕ, List, true, Result, Ok, Err}
use Rattle.std.specs.List.{list_any}
use Rattle.gate_outside.specs.Causes.{Rose}
use Rattle.gate_outside.specs.declared.faults.Fault.{Fault}
use Rattle.gate_outside.specs.declared.faults.Fault.TheVariants as outside
use Rattle.edit_post.specs.declared.send_refused.SendRefused.{SendRefused}
use Rattle.edit_post.specs.declared.send_refused.SendRefused.TheVariants as post
use Rattle.edit_post.specs.Post.{Sender}
use Rattle.guild_posts.specs.Posts.{has_sent_all}
use Rattle.worker_core.specs.declared.io.StepFault.{StepFault}
use Rattle.worker_core.specs.declared.io.StepFault.TheVariants as step
use Rattle.worker_run.specs.declared.fault.WorkFault.{WorkFault}
use Rattle.worker_run.specs.declared.fault.WorkFault.TheVariants as fault

abbrev pub by_step : StepFault → WorkFault
by_step step.Spent = fault.Spent
by_step step.Memory = fault.Memory

abbrev pub by_post : SendRefused → WorkFault
by_post post.Spent = fault.Spent
by_post post.Memory = fault.Memory

-- of a door alone
abbrev pub by_door : Fault → WorkFault
by_door outside.Failed = fault.Door
by_door outside.Memory = fault.Memory

-- only a fault of the door raises its count
abbrev pub DoorFails : {T : Type 0} → ℕ → ℕ → Result T WorkFault → Type 0
DoorFails before after (Ok x) = after ≡ before
DoorFails before after (Err fault.Door) = Rose before after
DoorFails before after (Err _) = after ≡ before

-- a fault that no door and no hub has: `Spent` only if this is so, and `Memory`
abbrev pub SpentOnlyIf : Type 0 → WorkFault → Type 0
SpentOnlyIf P fault.Spent = P
SpentOnlyIf P fault.Memory = Unit {0}
SpentOnlyIf P fault.Door = ⊥
SpentOnlyIf P fault.Quit = ⊥

-- why one of these passes refuses a request: `Spent` only if one has sent all that it can number
abbrev pub IsRefused : List Sender → WorkFault → Type 0
IsRefused passes f = SpentOnlyIf (list_any has_sent_all passes ≡ true) f
