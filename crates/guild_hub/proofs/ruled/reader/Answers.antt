use Rattle.std.proofs.Common.{rules}
use Rattle.guild_hub.proofs.Turning.{forks, merges}
use Rattle.guild_hub.proofs.ruled.reader.Goals as goal

pub tell-requires : goal.tell-requires
tell-requires c = forks _ _

pub learn-requires : goal.learn-requires
learn-requires c = record { own = search rules; rule = merges _ _ _ _ }
