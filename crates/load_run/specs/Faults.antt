-- By which fault a part of a load has ended, and which of several faults a load answers.
use Rattle.std.specs.Prelude.{ℕ, Bool, true, false, List, map, Option, Some, None, Result, Ok, Err}
use Rattle.std.specs.List.{fold}
use Rattle.std.specs.declared.alloc.AllocError.{AllocError}
use Rattle.gate_outside.specs.declared.faults.Fault.{Fault}
use Rattle.gate_outside.specs.declared.faults.Fault.TheVariants as outside
use Rattle.edit_post.specs.declared.send_refused.SendRefused.{SendRefused}
use Rattle.edit_post.specs.declared.send_refused.SendRefused.TheVariants as post
use Rattle.worker_run.specs.declared.fault.WorkFault.{WorkFault}
use Rattle.worker_run.specs.declared.fault.WorkFault.TheVariants as work
use Rattle.client_run.specs.declared.driven.Driven.{Driven}
use Rattle.client_run.specs.declared.fault.DriveFault.{DriveFault}
use Rattle.client_run.specs.declared.fault.DriveFault.TheVariants as drive
use Rattle.gate_parts.specs.declared.ending.Ending.{Ending}
use Rattle.gate_parts.specs.declared.ending.Ending.TheVariants.{Ran, Stopped}
use Rattle.load_parts.specs.declared.load_part.LoadDone.{LoadDone}
use Rattle.load_parts.specs.declared.load_part.LoadDone.TheVariants.{Actor, Script, Worker, Client}
use Rattle.gate_ends.specs.Ranks.{sooner_by}
use Rattle.load_run.specs.declared.fault.LoadFault.{LoadFault}
use Rattle.load_run.specs.declared.fault.LoadFault.TheVariants.{Memory, Spent, Start, Door, Write, Out, BadText}

abbrev pub actor_fault : {T : Type 0} → Ending (Result T AllocError) → Option LoadFault
actor_fault (Ran (Ok report)) = None
actor_fault (Ran (Err error)) = Some Memory
actor_fault Stopped = None

abbrev pub script_fault : Ending (Result (Unit {0}) SendRefused) → Option LoadFault
script_fault (Ran (Ok u)) = None
script_fault (Ran (Err post.Spent)) = Some Spent
script_fault (Ran (Err post.Memory)) = Some Memory
script_fault Stopped = None

-- a log ends without a seal only if memory ran out for its actor
abbrev pub worker_fault : {T : Type 0} → Ending (Result T WorkFault) → Option LoadFault
worker_fault (Ran (Ok report)) = None
worker_fault (Ran (Err work.Door)) = Some Door
worker_fault (Ran (Err work.Quit)) = Some Memory
worker_fault (Ran (Err work.Spent)) = Some Spent
worker_fault (Ran (Err work.Memory)) = Some Memory
worker_fault Stopped = None

-- nine links in a row that fail before a text are links of a worker for which memory ran out
abbrev pub client_fault : Result Driven DriveFault → Option LoadFault
client_fault (Ok driven) = None
client_fault (Err drive.Dials) = Some Memory
client_fault (Err (drive.Out code)) = Some (Out code)
client_fault (Err drive.BadText) = Some BadText
client_fault (Err drive.Memory) = Some Memory

-- which of two faults a load answers: that of the smaller rank
abbrev pub rank : LoadFault → ℕ
rank Memory = 0
rank Spent = 1
rank Start = 2
rank Door = 3
rank Write = 4
rank (Out code) = 5
rank BadText = 6

abbrev pub sooner : Option LoadFault → Option LoadFault → Option LoadFault
sooner = sooner_by rank

-- without a start of all parts
abbrev pub start_fault : Bool → Option LoadFault
start_fault true = None
start_fault false = Some Start

module _ {C R : Type 0} where
  abbrev pub fault_of : LoadDone C R → Option LoadFault
  fault_of (Actor done) = actor_fault done.ending
  fault_of (Script done) = script_fault done.ending
  fault_of (Worker done) = worker_fault done.ending
  fault_of (Client done) = client_fault done.ended.driven

  -- the fault that a load answers whose parts ended so, and whether all had started
  abbrev pub first_fault : Bool → List (LoadDone C R) → Option LoadFault
  first_fault started dones = fold sooner (start_fault started) (map fault_of dones)

-- the fault of a sink
abbrev pub by_sink : Fault → LoadFault
by_sink outside.Failed = Write
by_sink outside.Memory = Memory
