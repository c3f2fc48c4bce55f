-- the lines of the guilds so far are added
use Rattle.std.proofs.Common.{◌≡◌, ℕ, ◌++◌, take, flat_map}
use Rattle.client_cache.specs.Cached.{held_of}
use Rattle.client_follow.specs.Lines.{guild_line}
use Rattle.client_follow.proofs.closing.add_guild_lines.Given as goal

abbrev pub invariant-loop-guild : goal.invariant-loop-guild
invariant-loop-guild l = l.text.items ≡ l.fn.text.items ++ flat_map (λ (guild : ℕ). guild_line guild (held_of l.fn.cache guild).view) (take l.guild-index l.guild-items)
