use Rattle.std.proofs.Common.{◌≡◌, ◌-◌}
use Rattle.gate_outside.specs.Clocks.{ClockTale}
use Rattle.open_links.specs.Calls.{IsSameDoor}
use Rattle.worker_run.specs.Moves.{IsReady, kept, now}
use Rattle.worker_run.proofs.Hearing.{CameBefore}
use Rattle.worker_run.proofs.Composing.{Went}
use Rattle.worker_run.proofs.serving.Serving.hear_each.Given as goal

abbrev pub invariant-loop-from : goal.invariant-loop-from
invariant-loop-from g l = record {
  ready : IsReady l.posts l.self (g.D.Door.tale l.door);
  door : IsSameDoor (g.D.Door.tale l.fn.door) (g.D.Door.tale l.door);
  count : l.self.links.count ≡ l.fn.self.links.count;
  limit : l.count ≡ l.fn.self.links.count;
  faults : g.D.Door.faults l.door ≡ g.D.Door.faults l.fn.door;
  goes : (clock : ClockTale) → Went (λ h. CameBefore l.from (kept h))
      (now l.fn.self (g.D.Door.tale l.fn.door).returned (g.J.Notes.noted l.fn.notes) clock) (now l.self (g.D.Door.tale l.door).returned (g.J.Notes.noted l.notes) clock);
}

abbrev pub decreases-loop-from : goal.decreases-loop-from
decreases-loop-from g l = l.count - l.from
