use Rattle.std.proofs.Common.{◌≡◌, List, []}
use Rattle.client_run.specs.Histories.{Told, StepsAll, events}
use Rattle.client_run.specs.Drives.{Sees, seen}
use Rattle.client_run.specs.Turns.{Meets}
use Rattle.client_run.proofs.turns.visit.Given as goal

-- what the client was told so far
abbrev pub invariant-loop : goal.invariant-loop
invariant-loop g l = record {
  went : (ts : List Told) × (StepsAll l.fn.client ts l.client × (Sees (seen (g.C.Clock.tale l.fn.clock) (g.W.Watch.told l.fn.watch l.fn.out)) (events ts) (seen (g.C.Clock.tale l.clock) (g.W.Watch.told l.watch l.out)) × Meets ts [] l.wire));
  count : g.W.Watch.reconnects l.watch ≡ g.W.Watch.reconnects l.fn.watch;
}
