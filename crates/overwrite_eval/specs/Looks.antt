-- How many roles and overwrites there are to look at.
use Rattle.std.specs.Prelude.{ℕ, ◌+◌, length}
use Rattle.std.specs.Option.{option_map_or}
use Rattle.collections.specs.ById.{find_id}
use Rattle.guild_model.specs.declared.channel.Channel.{Channel}
use Rattle.guild_model.specs.declared.channel.Overwrites.{Overwrites}
use Rattle.guild_model.specs.declared.member.Member.{Member}
use Rattle.guild_model.specs.declared.thread.Thread.{Thread}
use Rattle.guild_model.specs.Record.{Record, member_id, channel_id, thread_id}

-- the roles that a member holds, and @everyone
abbrev pub role_looks : Record → ℕ → ℕ
role_looks g user = option_map_or (λ (m : Member). length m.roles + 1) (find_id member_id user g.members) 0

abbrev pub looks_of : Overwrites → ℕ
looks_of os = length os.roles + length os.members

-- the overwrites of a channel
abbrev pub overwrite_looks : Record → ℕ → ℕ
overwrite_looks g channel =
    option_map_or (λ (c : Channel). looks_of c.overwrites) (find_id channel_id channel g.channels) 0

-- the overwrites of the channel that a thread stands in
abbrev pub parent_looks : Record → ℕ → ℕ
parent_looks g thread =
    option_map_or (λ (t : Thread). overwrite_looks g t.parent) (find_id thread_id thread g.threads) 0
