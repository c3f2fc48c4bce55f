use Rattle.std.proofs.Common.{◌≡◌, ◌+◌, ◌<◌, List, true}
use Rattle.std.specs.List.{list_all}
use Rattle.client_run.specs.Histories.{Visit, is_left, dropped}
use Rattle.client_run.specs.Drives.{Goes, outside, seen}
use Rattle.client_run.proofs.driving.drive_from.Given as goal

-- the visits so far
abbrev pub invariant-loop : goal.invariant-loop
invariant-loop g l = record {
  vs : List Visit;
  goes : Goes l.fn.route.first l.fn.route.target vs l.route.target (outside l.fn.client (g.D.Dial.tale l.fn.dial) (seen (g.C.Clock.tale l.fn.clock) (g.W.Watch.told l.fn.watch l.fn.out))) (outside l.client (g.D.Dial.tale l.dial) (seen (g.C.Clock.tale l.clock) (g.W.Watch.told l.watch l.out)));
  left : list_all is_left vs ≡ true;
  first : l.route.first ≡ l.fn.route.first;
  same : l.route.dry_run ≡ (g.D.Dial.tale l.dial).dry_run;
  wet : l.route.dry_run < 9;
  house : g.D.Dial.house_tale l.dial ≡ g.D.Dial.house_tale l.fn.dial;
  count : g.W.Watch.reconnects l.watch ≡ g.W.Watch.reconnects l.fn.watch + dropped vs;
}
