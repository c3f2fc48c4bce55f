-- Which channels and threads a member sees (Permissions, VIEW_CHANNEL; Threads, Private Threads).
use Rattle.std.specs.Prelude.{ℕ, Bool, true, false, not, ◌&&◌, ◌||◌, List, Option, Some, None}
use Rattle.std.specs.Option.{option_map_or}
use Rattle.collections.specs.ById.{find_id, has_id}
use Rattle.perm_bits.specs.Permissions.{view_channel, manage_threads}
use Rattle.guild_model.specs.declared.member.Member.{Member}
use Rattle.guild_model.specs.declared.role.Role.{Role}
use Rattle.guild_model.specs.declared.channel.Channel.{Channel}
use Rattle.guild_model.specs.declared.thread.Thread.{Thread}
use Rattle.guild_model.specs.declared.thread.ThreadKind.{ThreadKind}
use Rattle.guild_model.specs.declared.thread.ThreadKind.TheVariants as thread
use Rattle.guild_model.specs.Record.{Record, member_id, channel_id, thread_id, thread_member_id}
use Rattle.guild_model.specs.Permissions.{part_grants}

-- what sight rests on, in a record and in a client's view alike
pub record Standing : Type 0 where
  pub guild : ℕ
  pub owner : ℕ
  pub roles : List Role
  pub channels : List Channel
  pub me : Member

abbrev pub granted_in : Standing → ℕ → Option Channel → Bool
granted_in s b None = false
granted_in s b (Some c) = part_grants s.guild s.owner s.roles s.me c.overwrites b

-- the member is granted a bit in a channel
unfoldable pub granted : Standing → ℕ → ℕ → Bool
granted s channel b = granted_in s b (find_id channel_id channel s.channels)

abbrev pub sees : Standing → ℕ → Bool
sees s channel = granted s channel view_channel

abbrev pub is_private : ThreadKind → Bool
is_private thread.Private = true
is_private thread.Announcement = false
is_private thread.Public = false

-- a thread of a kind under a parent is seen by a member that is in it or not
abbrev pub sees_in : Standing → ℕ → ThreadKind → Bool → Bool
sees_in s parent kind joined = sees s parent && (not (is_private kind) || joined || granted s parent manage_threads)

abbrev pub standing : Record → Member → Standing
standing g m = record { guild = g.id; owner = g.owner; roles = g.roles; channels = g.channels; me = m }

abbrev pub is_in : ℕ → Thread → Bool
is_in user t = has_id thread_member_id user t.members

abbrev pub member_sees : Record → Member → Thread → Bool
member_sees g m t = sees_in (standing g m) t.parent t.kind (is_in m.user.id t)

-- a user sees a channel; a stranger sees none, and nobody one that is not there
abbrev pub sees_channel : Record → ℕ → ℕ → Bool
sees_channel g user channel = option_map_or (λ (m : Member). sees (standing g m) channel) (find_id member_id user g.members) false

abbrev pub sees_thread_of : Record → Option Member → Option Thread → Bool
sees_thread_of g None t = false
sees_thread_of g (Some m) None = false
sees_thread_of g (Some m) (Some t) = member_sees g m t

-- a user sees a thread, archived or not
abbrev pub sees_thread : Record → ℕ → ℕ → Bool
sees_thread g user thread = sees_thread_of g (find_id member_id user g.members) (find_id thread_id thread g.threads)
