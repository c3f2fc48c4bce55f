use Rattle.std.proofs.Common.{ℕ, flat_map, refl}
use Rattle.client_cache.specs.Cached.{held_of}
use Rattle.client_follow.specs.Lines.{guild_line}
use Rattle.client_follow.proofs.closing.add_guild_lines.Goals as goal

pub returns-in-Err : goal.returns-in-Err
returns-in-Err c = (
  flat_map (λ (guild : ℕ). guild_line guild (held_of c.args.cache.now guild).view) c.guilds-guild-items.result.now,
  record { guilds = c.guilds-guild-items.result.now; ascending = c.guilds-guild-items.ensures.ascending; viewed = c.guilds-guild-items.ensures.exact; lines = refl },
  tt,
)
