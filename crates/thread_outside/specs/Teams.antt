-- Spawners in memory and over threads.
use Rattle.std.specs.Prelude.{ℕ}
use Rattle.gate_outside.specs.FaultPlans.{Plan, after_next}
use Rattle.gate_outside.specs.Spawners.{Starts, no_starts, after_start, after_finish}

-- a spawner in memory: its numbers, and which starts are to fail
pub record TeamState : Type 0 where
  pub starts : Starts
  pub plan : Plan

-- after a start, which fails exactly if it is to fail
abbrev pub started : TeamState → TeamState
started t = record { starts = after_start t.starts; plan = after_next t.plan }

-- after a finish, which leaves the starts that are to fail
abbrev pub finished : TeamState → TeamState
finished t = record t { starts = after_finish t.starts }

-- a team of threads: its numbers, and how often a start failed
pub record ThreadTeamState : Type 0 where
  pub starts : Starts
  pub faults : ℕ

-- a team that was asked for nothing yet
abbrev pub new_team : ThreadTeamState
new_team = record { starts = no_starts; faults = 0 }
