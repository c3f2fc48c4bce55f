-- what was started, and what is left in reverse, are the tasks
use Rattle.std.proofs.Common.{◌≡◌, ◌+◌, ◌-◌, ◌≤◌, ◌++◌, length, map, take, reverse}
use Rattle.std.specs.Vec.{vec_len, vec_capacity}
use Rattle.team_run.specs.Teams.{after_starts}
use Rattle.team_run.proofs.starting.start_all.Given as goal

abbrev pub invariant-loop-task : goal.invariant-loop-task
invariant-loop-task g l = record {
  tasks : map g.S.Spawner.task_of l.started.items ++ reverse l.tasks.items ≡ map g.S.Spawner.task_of l.fn.started.items ++ l.fn.tasks.items;
  kept : take (length l.fn.started.items) l.started.items ≡ l.fn.started.items;
  longer : length l.fn.started.items ≤ length l.started.items;
  fewer : length l.tasks.items ≤ length l.fn.tasks.items;
  room : vec_len l.started + vec_len l.tasks ≤ vec_capacity l.started;
  starts : g.S.Spawner.starts l.team ≡ after_starts (length l.fn.tasks.items - length l.tasks.items) (g.S.Spawner.starts l.fn.team);
  faults : g.S.Spawner.faults l.team ≡ g.S.Spawner.faults l.fn.team;
}

abbrev pub decreases-loop-task : goal.decreases-loop-task
decreases-loop-task g l = length l.tasks.items
