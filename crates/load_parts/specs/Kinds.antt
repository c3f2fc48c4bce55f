-- The parts of a load that have ended, kind by kind.
use Rattle.std.specs.Prelude.{List, [], ◌∷◌}
use Rattle.thread_outside.specs.DialledDoors.{DialledState}
use Rattle.thread_outside.specs.declared.kept_notes.KeptNotes.{KeptNotes}
use Rattle.worker_core.specs.declared.io.Input.{Input as Given}
use Rattle.gate_parts.specs.declared.actor_part.ActorDone.{ActorDone}
use Rattle.gate_parts.specs.declared.script_part.ScriptDone.{ScriptDone}
use Rattle.gate_parts.specs.declared.worker_part.WorkerDone.{WorkerDone}
use Rattle.load_parts.specs.declared.client_part.ClientDone.{ClientDone}
use Rattle.load_parts.specs.declared.load_part.LoadDone.{LoadDone}
use Rattle.load_parts.specs.declared.load_part.LoadDone.TheVariants as done

module _ {C R : Type 0} where
  -- the actor that has ended, if it is one
  abbrev pub actor_of : LoadDone C R → List (ActorDone R)
  actor_of (done.Actor d) = d ∷ []
  actor_of (done.Script d) = []
  actor_of (done.Worker d) = []
  actor_of (done.Client d) = []

  -- the script that has ended, if it is one
  abbrev pub script_of : LoadDone C R → List ScriptDone
  script_of (done.Actor d) = []
  script_of (done.Script d) = d ∷ []
  script_of (done.Worker d) = []
  script_of (done.Client d) = []

  -- the worker that has ended, if it is one
  abbrev pub worker_of : LoadDone C R → List (WorkerDone DialledState C (KeptNotes Given))
  worker_of (done.Actor d) = []
  worker_of (done.Script d) = []
  worker_of (done.Worker d) = d ∷ []
  worker_of (done.Client d) = []

  -- the client that has ended, if it is one
  abbrev pub client_of : LoadDone C R → List (ClientDone C)
  client_of (done.Actor d) = []
  client_of (done.Script d) = []
  client_of (done.Worker d) = []
  client_of (done.Client d) = d ∷ []
