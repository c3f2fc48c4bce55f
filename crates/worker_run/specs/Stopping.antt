-- internal: cited by private functions only
-- Why an input is not handled, and what that leaves.
use Rattle.std.specs.Prelude.{◌≡◌, List, [], ◌∷◌, true, Option}
use Rattle.world_law.specs.Model.{Worker}
use Rattle.world_law.specs.Inputs.{Input}
use Rattle.world_law.specs.Spent.{spends}
use Rattle.worker_core.specs.declared.io.Input.{Input as Given}
use Rattle.worker_core.specs.InCode.{wire_model, KeptWorker}
use Rattle.worker_core.specs.Represents.{Represents}
use Rattle.worker_run.specs.Notes.{AreNoted, AreNotedButLast}
use Rattle.worker_run.specs.declared.fault.WorkFault.{WorkFault}
use Rattle.worker_run.specs.declared.fault.WorkFault.TheVariants as fault

-- a count of the worker's is spent by this input
abbrev pub SpendsAll : KeptWorker → Input → Type 0
SpendsAll old i = (w : Worker) → Represents old w → spends wire_model w i ≡ true

-- the input was noted and is spent, or memory ran out, perhaps before it was noted
abbrev pub TakesNot : Input → KeptWorker → Option (List Given) → Option (List Given) → WorkFault → Type 0
TakesNot i old before now fault.Spent = SpendsAll old i × AreNoted (i ∷ []) before now
TakesNot i old before now fault.Memory = AreNotedButLast (i ∷ []) before now
TakesNot i old before now fault.Door = ⊥
TakesNot i old before now fault.Quit = ⊥
