-- the dispatches of the sessions so far
use Rattle.std.proofs.Common.{◌≡◌, ◌≤◌, ◌-◌, ◌*◌, ◌^◌, take}
use Rattle.worker_core.proofs.made.live_dispatches.Given as goal
use Rattle.worker_core.specs.Made.{live_dispatches}

abbrev pub invariant-loop-index : goal.invariant-loop-index
invariant-loop-index l = record {
  counted : l.count ≡ live_dispatches (take l.index l.sessions.sessions);
  small : l.count ≤ l.index * (2 ^ 64 - 1);
}
