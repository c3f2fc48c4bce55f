-- Which guilds a viewer is served (Gateway, Sharding).
use Rattle.std.specs.Prelude.{ℕ, Bool, true, ◌&&◌, ◌==◌, ◌/◌, ◌%◌, ◌^◌, Option, Some, None, is_some, if◌then◌else◌}
use Rattle.collections.specs.ById.{find_id}
use Rattle.guild_model.specs.declared.member.Member.{Member}
use Rattle.guild_model.specs.Record.{Record, member_id}
use Rattle.dispatch_types.specs.declared.viewer.Viewer.{Viewer}

-- a guild belongs to shard `id` of `count`
abbrev pub has_guild : ℕ × ℕ → ℕ → Bool
has_guild shard guild = (guild / 2 ^ 22) % shard.1 == shard.0

abbrev pub in_shard : Option (ℕ × ℕ) → ℕ → Bool
in_shard None guild = true
in_shard (Some shard) guild = has_guild shard guild

-- the viewer's own member, where it is served: the guild is open and of its shard, and the user is a member
abbrev pub served : Viewer → Record → Option Member
served v s = if s.opened && in_shard v.shard s.id then find_id member_id v.user s.members else None

abbrev pub serves : Viewer → Record → Bool
serves v s = is_some (served v s)
