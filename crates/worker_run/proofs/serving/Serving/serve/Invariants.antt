use Rattle.std.proofs.Common.{◌≡◌}
use Rattle.guild_places.specs.Places.{guilds_of}
use Rattle.worker_run.specs.Moves.{IsReady, CountsLinks, AreAllTurns, now}
use Rattle.worker_run.proofs.Composing.{Went}
use Rattle.worker_run.proofs.serving.Serving.serve.Given as goal

abbrev pub invariant-loop : goal.invariant-loop
invariant-loop g l = record {
  ready : IsReady l.posts l.self (g.D.Door.tale l.door);
  counts : CountsLinks l.fn.self l.self (g.D.Door.tale l.fn.door) (g.D.Door.tale l.door);
  faults : g.D.Door.faults l.door ≡ g.D.Door.faults l.fn.door;
  goes : Went (AreAllTurns (guilds_of l.fn.self.readers))
      (now l.fn.self (g.D.Door.tale l.fn.door).returned (g.J.Notes.noted l.fn.notes) (g.C.Clock.tale l.fn.clock)) (now l.self (g.D.Door.tale l.door).returned (g.J.Notes.noted l.notes) (g.C.Clock.tale l.clock));
}
