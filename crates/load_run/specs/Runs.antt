-- What becomes of the parts of a run.
use Rattle.std.specs.Prelude.{◌≡◌, ℕ, ◌<◌, List, [], ◌++◌, length}
use Rattle.std.specs.List.{AllZip}
use Rattle.gate_outside.specs.Causes.{Rose}
use Rattle.gate_outside.specs.Spawners.{Starts}
use Rattle.team_run.specs.Teams.{many_more}

-- the first of these tasks were started and gave this, all before any was finished; the others came back, and only
-- if the spawner failed
pub record RanParts {T D : Type 0} (gives : T → D → Type 0) (tasks : List T) (before after : Starts) (faults_before faults_after : ℕ) (dones : List D) (back : List T) : Type 0 where
  pub front : List T
  pub parts : tasks ≡ front ++ back
  pub gave : AllZip gives front dones
  pub asked : back ≡ [] → after.asked ≡ many_more (length tasks) before.asked
  pub late : before.finished ≡ 0 → after.late ≡ before.late
  pub sound : back ≡ [] → faults_after ≡ faults_before
  pub rose : 0 < length back → Rose faults_before faults_after
