-- connections were lost so far
use Rattle.std.proofs.Common.{◌≡◌}
use Rattle.gate_outside.specs.Clocks.{ClockTale}
use Rattle.open_links.specs.Calls.{IsSameDoor}
use Rattle.worker_run.specs.Histories.{History}
use Rattle.worker_run.specs.Moves.{IsReady, Loses, now}
use Rattle.worker_run.proofs.serving.Serving.lose_failed.Given as goal

abbrev pub invariant-loop : goal.invariant-loop
invariant-loop g l = record {
  ready : IsReady l.posts l.self (g.D.Door.tale l.door);
  door : IsSameDoor (g.D.Door.tale l.fn.door) (g.D.Door.tale l.door);
  faults : g.D.Door.faults l.door ≡ g.D.Door.faults l.fn.door;
  loses : (c : ClockTale) → (h : History) × Loses h (now l.fn.self (g.D.Door.tale l.fn.door).returned (g.J.Notes.noted l.fn.notes) c) (now l.self (g.D.Door.tale l.door).returned (g.J.Notes.noted l.notes) c);
}
