-- whatever the tasks that are left give makes what all give
use Rattle.std.proofs.Common.{◌≡◌, ◌+◌, ◌-◌, ◌≤◌, length, reverse}
use Rattle.std.specs.Vec.{vec_len, vec_capacity}
use Rattle.team_run.specs.Teams.{after_finishes}
use Rattle.team_run.proofs.Lists.{GivesRest}
use Rattle.team_run.proofs.finishing.finish_all.Given as goal

abbrev pub invariant-loop-held : goal.invariant-loop-held
invariant-loop-held g l = record {
  gives : GivesRest g.T.Task.gives g.S.Spawner.task_of l.fn.started.items (reverse l.started.items) l.dones.items;
  fewer : length l.started.items ≤ length l.fn.started.items;
  room : vec_len l.dones + vec_len l.started ≤ vec_capacity l.dones;
  starts : g.S.Spawner.starts l.team ≡ after_finishes (length l.fn.started.items - length l.started.items) (g.S.Spawner.starts l.fn.team);
  faults : g.S.Spawner.faults l.team ≡ g.S.Spawner.faults l.fn.team;
}

abbrev pub decreases-loop-held : goal.decreases-loop-held
decreases-loop-held g l = length l.started.items
