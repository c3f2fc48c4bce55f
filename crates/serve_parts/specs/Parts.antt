-- What the parts of a server give.
use Rattle.std.specs.Prelude.{ℕ, List, Option, None}
use Rattle.gate_outside.specs.Clocks.{ClockTale}
use Rattle.gate_outside.specs.Doors.{DoorTale}
use Rattle.thread_outside.specs.declared.quiet_notes.QuietNotes.{QuietNotes}
use Rattle.gate_parts.specs.declared.worker_part.WorkerPart.{WorkerPart}
use Rattle.gate_parts.specs.declared.worker_part.WorkerDone.{WorkerDone}
use Rattle.gate_parts.specs.Actors.{ActorGives}
use Rattle.gate_parts.specs.Workers.{WorkerGives}
use Rattle.serve_parts.specs.declared.serve_part.ServePart.{ServePart}
use Rattle.serve_parts.specs.declared.serve_part.ServePart.TheVariants as part
use Rattle.serve_parts.specs.declared.serve_part.ServeDone.{ServeDone}
use Rattle.serve_parts.specs.declared.serve_part.ServeDone.TheVariants as done
use Rattle.serve_parts.specs.Files.{FileGives}

module _ {D C R : Type 0} (door_tale : D → DoorTale) (door_faults : D → ℕ) (clock_tale : C → ClockTale) where
  -- what a worker's part of a server gives, whose notes tell nothing
  abbrev pub DoorPartGives : WorkerPart D C QuietNotes R → WorkerDone D C QuietNotes → Type 0
  DoorPartGives = WorkerGives door_tale door_faults clock_tale (λ quiet. None)

module _ {S D C R : Type 0} (left : S → Option (List ℕ)) (faults : S → ℕ) (door_tale : D → DoorTale) (door_faults : D → ℕ) (clock_tale : C → ClockTale) where
  -- what a part of a server gives, which is of its own kind
  abbrev pub ServeGives : ServePart S D C R → ServeDone S D C R → Type 0
  ServeGives (part.Actor p) (done.Actor d) = ActorGives p d
  ServeGives (part.Script p) (done.Script d) = FileGives left faults p d
  ServeGives (part.Worker p) (done.Worker d) = DoorPartGives door_tale door_faults clock_tale p d
  ServeGives p d = ⊥
