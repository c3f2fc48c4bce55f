-- What the parts of a server gave, kind by kind.
use Rattle.std.specs.Prelude.{ℕ, List, ◌++◌, map, flat_map, Option}
use Rattle.std.specs.List.{AllZip}
use Rattle.gate_outside.specs.Clocks.{ClockTale}
use Rattle.gate_outside.specs.Doors.{DoorTale}
use Rattle.thread_outside.specs.declared.quiet_notes.QuietNotes.{QuietNotes}
use Rattle.gate_parts.specs.Actors.{ActorGives}
use Rattle.gate_parts.specs.declared.actor_part.ActorPart.{ActorPart}
use Rattle.gate_parts.specs.declared.worker_part.WorkerPart.{WorkerPart}
use Rattle.serve_parts.specs.declared.file_part.FilePart.{FilePart}
use Rattle.serve_parts.specs.declared.serve_part.ServePart.{ServePart}
use Rattle.serve_parts.specs.declared.serve_part.ServePart.TheVariants as part
use Rattle.serve_parts.specs.declared.serve_part.ServeDone.{ServeDone}
use Rattle.serve_parts.specs.Files.{FileGives}
use Rattle.serve_parts.specs.Parts.{ServeGives, DoorPartGives}
use Rattle.serve_parts.specs.Kinds.{actor_of, script_of, worker_of}

module _ {S D C R : Type 0} where
  -- actors, scripts and workers as parts, in this order
  abbrev pub parts_of : List (ActorPart R) → List (FilePart S R) → List (WorkerPart D C QuietNotes R) → List (ServePart S D C R)
  parts_of actors scripts workers = map part.Actor actors ++ (map part.Script scripts ++ map part.Worker workers)

module _ (S D C R : Type 0) (left : S → Option (List ℕ)) (faults : S → ℕ) (door_tale : D → DoorTale) (door_faults : D → ℕ) (clock_tale : C → ClockTale) where
  -- each kind of what the parts gave is, in order, what the parts of that kind may give
  pub record GaveByKind (actors : List (ActorPart R)) (scripts : List (FilePart S R)) (workers : List (WorkerPart D C QuietNotes R)) (dones : List (ServeDone S D C R)) : Type 0 where
    pub actors_gave : AllZip ActorGives actors (flat_map actor_of dones)
    pub scripts_gave : AllZip (FileGives left faults) scripts (flat_map script_of dones)
    pub workers_gave : AllZip (DoorPartGives door_tale door_faults clock_tale) workers (flat_map worker_of dones)

  -- whatever the parts are and gave
  abbrev pub SplitsByKind : Type 0
  SplitsByKind = (actors : List (ActorPart R)) (scripts : List (FilePart S R)) (workers : List (WorkerPart D C QuietNotes R)) (dones : List (ServeDone S D C R))
      → AllZip (ServeGives left faults door_tale door_faults clock_tale) (parts_of actors scripts workers) dones
      → GaveByKind actors scripts workers dones
