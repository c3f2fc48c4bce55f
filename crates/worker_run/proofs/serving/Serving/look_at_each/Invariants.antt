use Rattle.std.proofs.Common.{◌≡◌, take}
use Rattle.gate_outside.specs.Clocks.{ClockTale}
use Rattle.guild_places.specs.Places.{guilds_of}
use Rattle.worker_run.specs.Moves.{IsReady, CountsLinks, AreLooks, now}
use Rattle.worker_run.proofs.Composing.{Went}
use Rattle.worker_run.proofs.serving.Serving.look_at_each.Given as goal

abbrev pub invariant-loop-place : goal.invariant-loop-place
invariant-loop-place g l = record {
  ready : IsReady l.posts l.self (g.D.Door.tale l.door);
  guilds : guilds_of l.self.readers ≡ guilds_of l.fn.self.readers;
  counts : CountsLinks l.fn.self l.self (g.D.Door.tale l.fn.door) (g.D.Door.tale l.door);
  faults : g.D.Door.faults l.door ≡ g.D.Door.faults l.fn.door;
  goes : (clock : ClockTale) → Went (AreLooks (take l.place (guilds_of l.fn.self.readers)))
      (now l.fn.self (g.D.Door.tale l.fn.door).returned (g.J.Notes.noted l.fn.notes) clock) (now l.self (g.D.Door.tale l.door).returned (g.J.Notes.noted l.notes) clock);
}
