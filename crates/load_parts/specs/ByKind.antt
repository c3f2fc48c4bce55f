-- What the parts of a load gave, kind by kind.
use Rattle.std.specs.Prelude.{List, ◌++◌, map, flat_map}
use Rattle.std.specs.List.{AllZip}
use Rattle.gate_outside.specs.Clocks.{ClockTale}
use Rattle.thread_outside.specs.DialledDoors.{DialledState}
use Rattle.thread_outside.specs.declared.kept_notes.KeptNotes.{KeptNotes}
use Rattle.worker_core.specs.declared.io.Input.{Input as Given}
use Rattle.gate_parts.specs.Actors.{ActorGives}
use Rattle.gate_parts.specs.Scripts.{ScriptGives}
use Rattle.gate_parts.specs.declared.actor_part.ActorPart.{ActorPart}
use Rattle.gate_parts.specs.declared.script_part.ScriptPart.{ScriptPart}
use Rattle.gate_parts.specs.declared.worker_part.WorkerPart.{WorkerPart}
use Rattle.load_parts.specs.declared.client_part.ClientPart.{ClientPart}
use Rattle.load_parts.specs.declared.load_part.LoadPart.{LoadPart}
use Rattle.load_parts.specs.declared.load_part.LoadPart.TheVariants as part
use Rattle.load_parts.specs.declared.load_part.LoadDone.{LoadDone}
use Rattle.load_parts.specs.Clients.{ClientGives}
use Rattle.load_parts.specs.Parts.{LoadGives, DoorWorkerGives}
use Rattle.load_parts.specs.Kinds.{actor_of, script_of, worker_of, client_of}

module _ {C R : Type 0} where
  -- actors, scripts, workers and clients as parts, in this order
  abbrev pub parts_of : List (ActorPart R) → List (ScriptPart R) → List (WorkerPart DialledState C (KeptNotes Given) R) → List (ClientPart C R) → List (LoadPart C R)
  parts_of actors scripts workers clients = map part.Actor actors ++ (map part.Script scripts ++ (map part.Worker workers ++ map part.Client clients))

module _ (C R : Type 0) (clock_tale : C → ClockTale) where
  -- each kind of what the parts gave is, in order, what the parts of that kind may give
  pub record GaveByKind (actors : List (ActorPart R)) (scripts : List (ScriptPart R)) (workers : List (WorkerPart DialledState C (KeptNotes Given) R)) (clients : List (ClientPart C R)) (dones : List (LoadDone C R)) : Type 0 where
    pub actors_gave : AllZip ActorGives actors (flat_map actor_of dones)
    pub scripts_gave : AllZip ScriptGives scripts (flat_map script_of dones)
    pub workers_gave : AllZip (DoorWorkerGives clock_tale) workers (flat_map worker_of dones)
    pub clients_gave : AllZip (ClientGives clock_tale) clients (flat_map client_of dones)

  -- whatever the parts are and gave
  abbrev pub SplitsByKind : Type 0
  SplitsByKind = (actors : List (ActorPart R)) (scripts : List (ScriptPart R)) (workers : List (WorkerPart DialledState C (KeptNotes Given) R)) (clients : List (ClientPart C R)) (dones : List (LoadDone C R))
      → AllZip (LoadGives clock_tale) (parts_of actors scripts workers clients) dones
      → GaveByKind actors scripts workers clients dones
