-- How the parts of a run have ended.
use Rattle.std.specs.Prelude.{◌≡◌, ℕ, ◌+◌, List, [], ◌∷◌, Bool, true, false, length, Option, Some, None}
use Rattle.std.specs.List.{AllZip}
use Rattle.edit_post.specs.Post.{PostId}
use Rattle.guild_hub.specs.Writes.{Publishing}
use Rattle.gate_parts.specs.declared.actor_part.ActorDone.{ActorDone}
use Rattle.run_stage.specs.Hubs.{IsNewWriter}
use Rattle.serve_run.specs.Ends.{FileEnds, WorkerEnds}
use Rattle.serve_run.specs.Faults.{first_fault}
use Rattle.serve_run.specs.Services.{Service, ascending, senders}
use Rattle.serve_run.specs.Files.{FileEnd}
use Rattle.serve_run.specs.declared.fault.ServeFault.{ServeFault}
use Rattle.serve_run.specs.declared.fault.ServeFault.TheVariants.{Memory, Spent, Start, Door, Read, Line, Write}
use Rattle.gate_ends.specs.Ends.{ActorEnds}
use Rattle.gate_ends.specs.declared.ending.WorkerEnd.{WorkerEnd}

-- each item is as it has to be for its number; the first has the number `first`
abbrev pub AreNumbered : {X : Type 0} → (ℕ → X → Type 0) → ℕ → List X → Type 0
AreNumbered Is first [] = Unit {0}
AreNumbered Is first (x ∷ xs) = Is first x × AreNumbered Is (first + 1) xs

-- The parts that were started have ended so: the first of each kind, and all if all were started. This is the fault that
-- the run answers then.
pub record EndsSo {R : Type 0} (s : Service) (posts : List PostId) (started : Bool) (actors : List (ActorDone R)) (scripts : List FileEnd) (workers : List WorkerEnd) (fault : Option ServeFault) : Type 0 where
  pub two : length posts ≡ 2
  pub writers : List (ℕ × Publishing)
  pub writers_are : AllZip IsNewWriter (ascending s.guilds) writers
  pub actors_are : AreNumbered (ActorEnds posts writers (senders s)) 0 actors
  pub scripts_are : AreNumbered (FileEnds s posts) 0 scripts
  pub workers_are : AreNumbered (WorkerEnds s posts writers) 0 workers
  pub whole : started ≡ true → (length actors ≡ 2) × ((length scripts ≡ length s.files) × (length workers ≡ length s.doors))
  pub fault_is : first_fault started actors scripts workers ≡ fault

-- the parts that were started have ended somehow, and this is the fault that the run answers then
pub record HasEndedBy (R : Type 0) (s : Service) (started : Bool) (fault : Option ServeFault) : Type 0 where
  pub posts : List PostId
  pub actors : List (ActorDone R)
  pub scripts : List FileEnd
  pub workers : List WorkerEnd
  pub ends : EndsSo s posts started actors scripts workers fault

-- ---- internal: cited by private functions only

-- which fault the parts may have had: where some were not started, none that goes after that
abbrev pub MayHave : Bool → Option ServeFault → Type 0
MayHave started None = started ≡ true
MayHave started (Some Memory) = Unit {0}
MayHave started (Some Spent) = Unit {0}
MayHave started (Some Start) = started ≡ false
MayHave started (Some Door) = started ≡ true
MayHave started (Some Read) = started ≡ true
MayHave started (Some (Line file line fault)) = started ≡ true
MayHave started (Some Write) = ⊥
