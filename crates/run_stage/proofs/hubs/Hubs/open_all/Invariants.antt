use Rattle.std.proofs.Common.{take}
use Rattle.std.specs.List.{AllZip}
use Rattle.run_stage.specs.Hubs.{IsNewWriter, HasReaders}
use Rattle.run_stage.proofs.hubs.Hubs.open_all.Given as goal

abbrev pub invariant-loop-guild : goal.invariant-loop-guild
invariant-loop-guild g l = record {
  writers : AllZip IsNewWriter (take l.guild-index l.fn.guilds) l.self.writers.items;
  readers : HasReaders l.fn.places l.self.writers.items l.self.readers.items;
}
