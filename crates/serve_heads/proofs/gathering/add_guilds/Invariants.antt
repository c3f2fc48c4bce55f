use Rattle.std.proofs.Common.{◌≡◌, take, fold}
use Rattle.serve_heads.specs.Guilds.{with_guild}
use Rattle.serve_heads.proofs.gathering.add_guilds.Given as goal

abbrev pub invariant-loop-guild : goal.invariant-loop-guild
invariant-loop-guild l = l.index.keys ≡ fold with_guild l.fn.index.keys (take l.guild-index l.guilds)
