use Rattle.std.proofs.Common.{◌≡◌, drop}
use Rattle.std.specs.List.{fold}
use Rattle.serve_run.specs.Faults.{actor_faults, sooner}
use Rattle.serve_run.proofs.faults.by_actors.Given as goal

abbrev pub invariant-loop-actor : goal.invariant-loop-actor
invariant-loop-actor g l = fold sooner l.first (actor_faults (drop l.actor-index l.actors)) ≡ fold sooner l.fn.first (actor_faults l.fn.actors)
