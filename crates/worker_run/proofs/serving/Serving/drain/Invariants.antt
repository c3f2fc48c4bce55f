use Rattle.std.proofs.Common.{◌≡◌, List, Option, All}
use Rattle.gate_outside.specs.Links.{ReturnedLink}
use Rattle.worker_run.specs.Hubs.{IsReader}
use Rattle.guild_places.specs.Places.{guilds_of}
use Rattle.worker_run.specs.Moves.{AreAllTurns, now}
use Rattle.worker_run.specs.Running.{Quietly}
use Rattle.worker_run.proofs.Composing.{Went}
use Rattle.worker_run.proofs.serving.Serving.drain.Given as goal

abbrev pub invariant-loop : goal.invariant-loop
invariant-loop g l = record {
  readers : All IsReader l.self.readers;
  same : l.self ≡ record l.fn.self { worker = l.self.worker; readers = l.self.readers };
  guilds : guilds_of l.self.readers ≡ guilds_of l.fn.self.readers;
  goes : (back : Option (List ReturnedLink)) → Went (Quietly (AreAllTurns (guilds_of l.fn.self.readers)))
      (now l.fn.self back (g.J.Notes.noted l.fn.notes) (g.C.Clock.tale l.fn.clock)) (now l.self back (g.J.Notes.noted l.notes) (g.C.Clock.tale l.clock));
}
