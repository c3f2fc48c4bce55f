-- Why a run of `serve` does not come to its end.
use Rattle.std.specs.Prelude.{◌≡◌, ◌⊎◌, ℕ, ◌<◌, List, [], ◌∷◌, Bool, true, false, Option, Some, None, Result, Ok, Err}
use Rattle.gate_outside.specs.Causes.{Rose}
use Rattle.gate_outside.specs.Spawners.{Starts}
use Rattle.team_run.specs.Teams.{many_more}
use Rattle.serve_run.specs.Services.{Service}
use Rattle.serve_run.specs.declared.fault.ServeFault.{ServeFault}
use Rattle.serve_run.specs.declared.fault.ServeFault.TheVariants.{Memory, Spent, Start, Door, Read, Line, Write}
use Rattle.serve_run.specs.Ended.{HasEndedBy}

-- one of these counts of faults stands above 0
abbrev pub HasFailed : List ℕ → Type 0
HasFailed [] = ⊥
HasFailed (count ∷ counts) = (0 < count) ⊎ HasFailed counts

module _ (R : Type 0) (s : Service) (team0 team1 sink0 sink1 : ℕ) (sources doors : List ℕ) where
  -- why a run ends by a fault, where these are the counts of faults of the sources and doors that go back; memory may run
  -- out at any time
  abbrev pub ServeCause : ServeFault → Type 0
  ServeCause Memory = Unit {0}
  ServeCause Spent = (started : Bool) × HasEndedBy R s started (Some Spent)
  ServeCause Start = HasEndedBy R s false (Some Start) × Rose team0 team1
  ServeCause Door = HasEndedBy R s true (Some Door) × HasFailed doors
  ServeCause Read = HasEndedBy R s true (Some Read) × HasFailed sources
  ServeCause (Line file line fault) = HasEndedBy R s true (Some (Line file line fault))
  ServeCause Write = HasEndedBy R s true None × Rose sink0 sink1

  -- the same of an answer
  abbrev pub HasServeCause : Result (Unit {0}) ServeFault → Type 0
  HasServeCause (Ok u) = HasEndedBy R s true None × ((team1 ≡ team0) × (sink1 ≡ sink0))
  HasServeCause (Err fault) = ServeCause fault

-- no part was started after one was finished, if nothing was finished before; and a run that came to its end has asked for
-- one start of each of so many parts
pub record StartsParts (count : ℕ) (before after : Starts) (result : Result (Unit {0}) ServeFault) : Type 0 where
  pub late : before.finished ≡ 0 → after.late ≡ before.late
  pub asked : result ≡ Ok tt → after.asked ≡ many_more count before.asked

-- ---- internal: cited by private functions only

-- a source or a door that goes back shows the fault of a part
abbrev pub ShowsFault : (sources doors : List ℕ) → Option ServeFault → Type 0
ShowsFault sources doors (Some Door) = HasFailed doors
ShowsFault sources doors (Some Read) = HasFailed sources
ShowsFault sources doors fault = Unit {0}

-- which fault is answered: want of memory, that of the parts, or where they have none that of the sink
abbrev pub AnswersBy : Option ServeFault → (sink0 sink1 : ℕ) → Result (Unit {0}) ServeFault → Type 0
AnswersBy fault sink0 sink1 (Ok u) = (fault ≡ None) × (sink1 ≡ sink0)
AnswersBy fault sink0 sink1 (Err Memory) = Unit {0}
AnswersBy fault sink0 sink1 (Err Write) = (fault ≡ None) × Rose sink0 sink1
AnswersBy fault sink0 sink1 (Err answered) = fault ≡ Some answered
