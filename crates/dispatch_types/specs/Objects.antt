-- What is sent of a part of a record, and the part that a client makes of it.
use Rattle.std.specs.Prelude.{ℕ, ◌++◌, List, [], map, min, length, Bool, true, false, not, Option, Some, None, option_map}
use Rattle.std.specs.List.{filter_map}
use Rattle.collections.specs.ById.{put_all}
use Rattle.guild_model.specs.declared.channel.Channel.{Channel}
use Rattle.guild_model.specs.declared.channel.Overwrite.{Overwrite}
use Rattle.guild_model.specs.declared.channel.Overwrites.{Overwrites}
use Rattle.guild_model.specs.declared.member.Member.{Member}
use Rattle.guild_model.specs.declared.thread.Thread.{Thread}
use Rattle.guild_model.specs.declared.thread.ThreadMember.{ThreadMember}
use Rattle.guild_model.specs.declared.voice.Voice.{Voice}
use Rattle.guild_model.specs.declared.presence.Presence.{Presence}
use Rattle.guild_model.specs.Record.{own_id, overwrite_id}
use Rattle.guild_model.specs.declared.channel.OverwriteKind.{OverwriteKind}
use Rattle.guild_model.specs.declared.channel.OverwriteKind.TheVariants as overwrite
use Rattle.dispatch_types.specs.declared.channels.OverwriteObject.{OverwriteObject}
use Rattle.dispatch_types.specs.declared.channels.ChannelObject.{ChannelObject}
use Rattle.dispatch_types.specs.declared.members.MemberObject.{MemberObject}
use Rattle.dispatch_types.specs.declared.threads.ThreadObject.{ThreadObject}
use Rattle.dispatch_types.specs.declared.threads.ThreadMemberObject.{ThreadMemberObject}
use Rattle.dispatch_types.specs.declared.presences.VoiceObject.{VoiceObject}
use Rattle.dispatch_types.specs.declared.presences.PresenceObject.{PresenceObject}

-- overwrites: of roles, then of members
abbrev pub overwrite_object : OverwriteKind → Overwrite → OverwriteObject
overwrite_object kind o = record { kind = kind; id = o.id; allow = o.allow; deny = o.deny }

abbrev pub overwrite_objects : Overwrites → List OverwriteObject
overwrite_objects os = map (overwrite_object overwrite.Role) os.roles ++ map (overwrite_object overwrite.Member) os.members

abbrev pub of_role : OverwriteKind → Bool
of_role overwrite.Role = true
of_role overwrite.Member = false

abbrev pub overwrite_if : Bool → OverwriteObject → Option Overwrite
overwrite_if true o = Some (record { id = o.id; allow = o.allow; deny = o.deny })
overwrite_if false o = None

abbrev pub role_overwrite : OverwriteObject → Option Overwrite
role_overwrite o = overwrite_if (of_role o.kind) o

abbrev pub member_overwrite : OverwriteObject → Option Overwrite
member_overwrite o = overwrite_if (not (of_role o.kind)) o

abbrev pub overwrites_of : List OverwriteObject → Overwrites
overwrites_of os = record { roles = put_all overwrite_id [] (filter_map role_overwrite os); members = put_all overwrite_id [] (filter_map member_overwrite os) }

-- channels
abbrev pub channel_object : ℕ → Channel → ChannelObject
channel_object guild c = record { guild = guild; id = c.id; kind = c.kind; name = c.name; parent = c.parent; position = c.position; overwrites = overwrite_objects c.overwrites }

abbrev pub channel_of : ChannelObject → Channel
channel_of o = record { id = o.id; kind = o.kind; name = o.name; parent = o.parent; position = o.position; overwrites = overwrites_of o.overwrites }

-- members
abbrev pub member_object : Member → MemberObject
member_object m = record { user = m.user; nick = m.nick; roles = m.roles; joined = m.joined; timeout = m.timeout }

abbrev pub member_of : MemberObject → Member
member_of o = record { user = o.user; nick = o.nick; roles = put_all own_id [] o.roles; joined = o.joined; timeout = o.timeout }

-- threads and their members
abbrev pub thread_object : ℕ → Thread → ThreadObject
thread_object guild t = record { guild = guild; id = t.id; kind = t.kind; name = t.name; owner = t.owner; parent = t.parent; archived = t.archived; count = min 50 (length t.members) }

abbrev pub thread_member_object : ℕ → ThreadMember → ThreadMemberObject
thread_member_object thread m = record { thread = thread; user = m.user; joined = m.joined }

abbrev pub thread_member_of : ThreadMemberObject → ThreadMember
thread_member_of o = record { user = o.user; joined = o.joined }

-- voice states: one without a channel is none
abbrev pub voice_object : Voice → VoiceObject
voice_object v = record { user = v.user; channel = Some v.channel; self_mute = v.self_mute; self_deaf = v.self_deaf }

abbrev pub voice_in : VoiceObject → ℕ → Voice
voice_in o channel = record { user = o.user; channel = channel; self_mute = o.self_mute; self_deaf = o.self_deaf }

abbrev pub voice_of : VoiceObject → Option Voice
voice_of o = option_map (voice_in o) o.channel

-- presences: one that is offline is none
abbrev pub presence_object : ℕ → Presence → PresenceObject
presence_object guild p = record { guild = guild; user = p.user; status = Some p.status }

abbrev pub presence_of : PresenceObject → Option Presence
presence_of o = option_map (λ status. record { user = o.user; status = status }) o.status
