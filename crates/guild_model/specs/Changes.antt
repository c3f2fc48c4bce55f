-- Changes of parts that several edits and several dispatches make.
use Rattle.std.specs.Prelude.{ℕ}
use Rattle.collections.specs.ById.{without_id}
use Rattle.guild_model.specs.declared.member.Member.{Member}
use Rattle.guild_model.specs.declared.channel.Channel.{Channel}
use Rattle.guild_model.specs.Record.{own_id, overwrite_id}

-- a member that holds a role no longer
abbrev pub without_role : ℕ → Member → Member
without_role role m = record m { roles = without_id own_id role m.roles }

-- a channel without the overwrite of a role
abbrev pub without_role_overwrite : ℕ → Channel → Channel
without_role_overwrite role c = record c { overwrites = record c.overwrites { roles = without_id overwrite_id role c.overwrites.roles } }
