use Rattle.std.proofs.Common.{◌≡◌, List, Option, All, true, take}
use Rattle.gate_outside.specs.Clocks.{ClockTale}
use Rattle.gate_outside.specs.Links.{ReturnedLink}
use Rattle.worker_run.specs.Hubs.{IsReader, HasSeenAll}
use Rattle.guild_places.specs.Places.{guilds_of}
use Rattle.worker_run.specs.Moves.{AreLooks, now}
use Rattle.worker_run.specs.Running.{Quietly}
use Rattle.worker_run.proofs.Composing.{Went}
use Rattle.worker_run.proofs.serving.Serving.look_quietly_at_each.Given as goal

abbrev pub invariant-loop-place : goal.invariant-loop-place
invariant-loop-place g l = record {
  readers : All IsReader l.self.readers;
  same : l.self ≡ record l.fn.self { worker = l.self.worker; readers = l.self.readers };
  guilds : guilds_of l.self.readers ≡ guilds_of l.fn.self.readers;
  seals : l.sealed ≡ true → All HasSeenAll (take l.place l.self.readers);
  goes : (back : Option (List ReturnedLink)) (clock : ClockTale) → Went (Quietly (AreLooks (take l.place (guilds_of l.fn.self.readers))))
      (now l.fn.self back (g.J.Notes.noted l.fn.notes) clock) (now l.self back (g.J.Notes.noted l.notes) clock);
}
