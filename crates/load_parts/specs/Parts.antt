-- What the parts of a load give.
use Rattle.std.specs.Prelude.{Some}
use Rattle.gate_outside.specs.Clocks.{ClockTale}
use Rattle.thread_outside.specs.DialledDoors.{DialledState, dialled_tale}
use Rattle.thread_outside.specs.declared.kept_notes.KeptNotes.{KeptNotes}
use Rattle.worker_core.specs.declared.io.Input.{Input as Given}
use Rattle.gate_parts.specs.declared.worker_part.WorkerPart.{WorkerPart}
use Rattle.gate_parts.specs.declared.worker_part.WorkerDone.{WorkerDone}
use Rattle.gate_parts.specs.Actors.{ActorGives}
use Rattle.gate_parts.specs.Scripts.{ScriptGives}
use Rattle.gate_parts.specs.Workers.{WorkerGives}
use Rattle.load_parts.specs.declared.load_part.LoadPart.{LoadPart}
use Rattle.load_parts.specs.declared.load_part.LoadPart.TheVariants as part
use Rattle.load_parts.specs.declared.load_part.LoadDone.{LoadDone}
use Rattle.load_parts.specs.declared.load_part.LoadDone.TheVariants as done
use Rattle.load_parts.specs.Clients.{ClientGives}

module _ {C R : Type 0} (clock_tale : C → ClockTale) where
  -- what a worker's part of a load gives
  abbrev pub DoorWorkerGives : WorkerPart DialledState C (KeptNotes Given) R → WorkerDone DialledState C (KeptNotes Given) → Type 0
  DoorWorkerGives = WorkerGives dialled_tale (λ door. door.plan.faults) clock_tale (λ kept. Some kept.notes.items)

  -- what a part of a load gives, which is of its own kind
  abbrev pub LoadGives : LoadPart C R → LoadDone C R → Type 0
  LoadGives (part.Actor p) (done.Actor d) = ActorGives p d
  LoadGives (part.Script p) (done.Script d) = ScriptGives p d
  LoadGives (part.Worker p) (done.Worker d) = DoorWorkerGives p d
  LoadGives (part.Client p) (done.Client d) = ClientGives clock_tale p d
  LoadGives p d = ⊥
