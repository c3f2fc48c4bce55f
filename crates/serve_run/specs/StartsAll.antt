-- internal: cited by private functions only. How the parts of a run were started.
use Rattle.std.specs.Prelude.{◌≡◌, ℕ, Bool, true, false}
use Rattle.gate_outside.specs.Causes.{Rose}
use Rattle.gate_outside.specs.Spawners.{Starts}
use Rattle.team_run.specs.Teams.{many_more}

-- so many tasks were started, none after another was finished; not all of them only if the spawner failed
pub record StartsAll (count : ℕ) (before after : Starts) (faults0 faults1 : ℕ) (started : Bool) : Type 0 where
  pub late : before.finished ≡ 0 → after.late ≡ before.late
  pub asked : started ≡ true → after.asked ≡ many_more count before.asked
  pub sound : started ≡ true → faults1 ≡ faults0
  pub rose : started ≡ false → Rose faults0 faults1
