-- By which fault a part of `serve` has ended, and which of several faults a run answers.
use Rattle.std.specs.Prelude.{ℕ, ◌+◌, Bool, true, false, List, [], ◌∷◌, ◌++◌, map, Option, Some, None, Result, Ok, Err}
use Rattle.std.specs.List.{fold}
use Rattle.std.specs.declared.alloc.AllocError.{AllocError}
use Rattle.gate_outside.specs.declared.faults.Fault.{Fault}
use Rattle.gate_outside.specs.declared.faults.Fault.TheVariants as outside
use Rattle.file_script.specs.declared.fault.ScriptFault.{ScriptFault}
use Rattle.file_script.specs.declared.fault.ScriptFault.TheVariants as script
use Rattle.worker_run.specs.declared.fault.WorkFault.{WorkFault}
use Rattle.worker_run.specs.declared.fault.WorkFault.TheVariants as work
use Rattle.gate_parts.specs.declared.actor_part.ActorDone.{ActorDone}
use Rattle.gate_parts.specs.declared.ending.Ending.{Ending}
use Rattle.gate_parts.specs.declared.ending.Ending.TheVariants.{Ran, Stopped}
use Rattle.gate_ends.specs.Ranks.{sooner_by}
use Rattle.gate_ends.specs.declared.ending.WorkerEnd.{WorkerEnd}
use Rattle.serve_run.specs.Files.{FileEnd}
use Rattle.serve_run.specs.declared.fault.ServeFault.{ServeFault}
use Rattle.serve_run.specs.declared.fault.ServeFault.TheVariants.{Memory, Spent, Start, Door, Read, Line, Write}

abbrev pub actor_fault : {T : Type 0} → Ending (Result T AllocError) → Option ServeFault
actor_fault (Ran (Ok report)) = None
actor_fault (Ran (Err error)) = Some Memory
actor_fault Stopped = None

-- the fault of the script of the file with this number, from 1
abbrev pub script_fault : ℕ → Ending (Result (Unit {0}) ScriptFault) → Option ServeFault
script_fault file (Ran (Ok u)) = None
script_fault file (Ran (Err script.Read)) = Some Read
script_fault file (Ran (Err (script.Line line fault))) = Some (Line file line fault)
script_fault file (Ran (Err script.Spent)) = Some Spent
script_fault file (Ran (Err script.Memory)) = Some Memory
script_fault file Stopped = None

-- a log ends without a seal only if memory ran out for its actor
abbrev pub worker_fault : {T : Type 0} → Ending (Result T WorkFault) → Option ServeFault
worker_fault (Ran (Ok report)) = None
worker_fault (Ran (Err work.Door)) = Some Door
worker_fault (Ran (Err work.Quit)) = Some Memory
worker_fault (Ran (Err work.Spent)) = Some Spent
worker_fault (Ran (Err work.Memory)) = Some Memory
worker_fault Stopped = None

-- which of two faults a run answers: that of the smaller rank, or the first
abbrev pub rank : ServeFault → ℕ
rank Memory = 0
rank Spent = 1
rank Start = 2
rank Door = 3
rank Read = 4
rank (Line file line fault) = 5
rank Write = 6

abbrev pub sooner : Option ServeFault → Option ServeFault → Option ServeFault
sooner = sooner_by rank

-- without a start of all parts
abbrev pub start_fault : Bool → Option ServeFault
start_fault true = None
start_fault false = Some Start

-- the faults of scripts, the first of which is of the file with this number
abbrev pub script_faults : ℕ → List FileEnd → List (Option ServeFault)
script_faults file [] = []
script_faults file (e ∷ es) = script_fault file e.ending ∷ script_faults (file + 1) es

abbrev pub worker_faults : List WorkerEnd → List (Option ServeFault)
worker_faults workers = map (λ (e : WorkerEnd). worker_fault e.ending) workers

module _ {R : Type 0} where
  abbrev pub actor_faults : List (ActorDone R) → List (Option ServeFault)
  actor_faults actors = map (λ (d : ActorDone R). actor_fault d.ending) actors

  -- the fault that a run answers whose parts ended so, and whether all had started
  abbrev pub first_fault : Bool → List (ActorDone R) → List FileEnd → List WorkerEnd → Option ServeFault
  first_fault started actors scripts workers = fold sooner (start_fault started) (actor_faults actors ++ (script_faults 1 scripts ++ worker_faults workers))

-- the fault of a sink
abbrev pub by_sink : Fault → ServeFault
by_sink outside.Failed = Write
by_sink outside.Memory = Memory
