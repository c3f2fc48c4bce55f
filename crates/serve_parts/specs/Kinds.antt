-- The parts of a server that have ended, kind by kind.
use Rattle.std.specs.Prelude.{List, [], ◌∷◌}
use Rattle.thread_outside.specs.declared.quiet_notes.QuietNotes.{QuietNotes}
use Rattle.gate_parts.specs.declared.actor_part.ActorDone.{ActorDone}
use Rattle.gate_parts.specs.declared.worker_part.WorkerDone.{WorkerDone}
use Rattle.serve_parts.specs.declared.file_part.FileDone.{FileDone}
use Rattle.serve_parts.specs.declared.serve_part.ServeDone.{ServeDone}
use Rattle.serve_parts.specs.declared.serve_part.ServeDone.TheVariants as done

module _ {S D C R : Type 0} where
  -- the actor that has ended, if it is one
  abbrev pub actor_of : ServeDone S D C R → List (ActorDone R)
  actor_of (done.Actor d) = d ∷ []
  actor_of (done.Script d) = []
  actor_of (done.Worker d) = []

  -- the script that has ended, if it is one
  abbrev pub script_of : ServeDone S D C R → List (FileDone S)
  script_of (done.Actor d) = []
  script_of (done.Script d) = d ∷ []
  script_of (done.Worker d) = []

  -- the worker that has ended, if it is one
  abbrev pub worker_of : ServeDone S D C R → List (WorkerDone D C QuietNotes)
  worker_of (done.Actor d) = []
  worker_of (done.Script d) = []
  worker_of (done.Worker d) = d ∷ []
