-- Parts of a run that have ended without a fault.
use Rattle.std.specs.Prelude.{◌≡◌, List, [], ◌∷◌, ◌++◌, Ok}
use Rattle.guild_actor.specs.declared.report.ActReport.{ActReport}
use Rattle.worker_run.specs.declared.report.WorkReport.{WorkReport}
use Rattle.gate_parts.specs.declared.actor_part.ActorDone.{ActorDone}
use Rattle.gate_parts.specs.declared.ending.Ending.TheVariants.{Ran}
use Rattle.gate_parts.specs.declared.worker_part.WorkerDone.{WorkerDone}
use Rattle.gate_ends.specs.declared.ending.ScriptEnd.{ScriptEnd}
use Rattle.gate_ends.specs.declared.ending.WorkerEnd.{WorkerEnd}

-- a worker without its door and its clock
abbrev pub worker_end : {D C J : Type 0} → WorkerDone D C J → WorkerEnd
worker_end d = record { ending = d.ending; readers = d.readers; passes = d.passes }

-- the script has sent all that it has
abbrev pub HasSentAll : {E : Type 0} → ScriptEnd E → Type 0
HasSentAll e = e.ending ≡ Ran (Ok tt)

-- the worker has served until its door had ended and each log had its seal
abbrev pub HasServed : WorkerEnd → Type 0
HasServed e = (report : WorkReport) × (e.ending ≡ Ran (Ok report))

-- the two last actors have ended with these reports
pub record AreReports {R : Type 0} (actors : List (ActorDone R)) (first second : ActReport R) : Type 0 where
  pub before : List (ActorDone R)
  pub one : ActorDone R
  pub other : ActorDone R
  pub actors_are : actors ≡ before ++ one ∷ other ∷ []
  pub first_is : one.ending ≡ Ran (Ok first)
  pub second_is : other.ending ≡ Ran (Ok second)
