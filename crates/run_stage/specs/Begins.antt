-- How the parts of a run were started.
use Rattle.std.specs.Prelude.{◌≡◌, ℕ, ◌<◌, List, [], ◌++◌, map, length}
use Rattle.gate_outside.specs.Causes.{Rose}
use Rattle.gate_outside.specs.Spawners.{Starts}
use Rattle.team_run.specs.Teams.{many_more}
use Rattle.stop_flag.specs.Flags.{SeatState, after_set}

-- the first of these tasks were started, none after another was finished; the others came back, and only if the spawner
-- failed; then, and only then, the stop flag is set
pub record Begins {T H : Type 0} (task_of : H → T) (tasks : List T) (before after : Starts) (faults0 faults1 : ℕ) (seat0 seat1 : SeatState) (started : List H) (back : List T) : Type 0 where
  pub parts : tasks ≡ map task_of started ++ back
  pub asked : back ≡ [] → after.asked ≡ many_more (length tasks) before.asked
  pub late : before.finished ≡ 0 → after.late ≡ before.late
  pub sound : back ≡ [] → faults1 ≡ faults0
  pub rose : 0 < length back → Rose faults0 faults1
  pub goes : back ≡ [] → seat1 ≡ seat0
  pub stops : 0 < length back → seat1 ≡ after_set seat0
