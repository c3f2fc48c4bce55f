-- GUILD_CREATE of a guild for a viewer (Gateway Events, Guild Create). Which members and presences stand in it, and
-- that a guild may withhold channels, is this server's choice.
use Rattle.std.specs.Prelude.{ℕ, map, filter, length, nat_lt, Bool, not, ◌&&◌, ◌||◌, ◌==◌, option_map}
use Rattle.collections.specs.ById.{find_id, has_id}
use Rattle.perm_bits.specs.Bits.{has_bit}
use Rattle.intent_set.specs.Intents.{guild_presences, guild_voice_states}
use Rattle.guild_model.specs.declared.member.Member.{Member}
use Rattle.guild_model.specs.declared.presence.Presence.{Presence}
use Rattle.guild_model.specs.declared.thread.Thread.{Thread}
use Rattle.guild_model.specs.declared.thread.ThreadMember.{ThreadMember}
use Rattle.guild_model.specs.Record.{Record, thread_member_id, voice_id, presence_id}
use Rattle.guild_model.specs.Shown.{shown_part}
use Rattle.dispatch_types.specs.declared.viewer.Viewer.{Viewer}
use Rattle.dispatch_types.specs.declared.threads.JoinedThread.{JoinedThread}
use Rattle.dispatch_types.specs.declared.guilds.GuildCreate.{GuildCreate}
use Rattle.dispatch_types.specs.Objects.{channel_object, member_object, thread_object, voice_object, presence_object}
use Rattle.dispatch_types.specs.Projection.{listed, seen_threads}

-- a guild is large to a viewer above its threshold
abbrev pub is_large : Record → Viewer → Bool
is_large s v = nat_lt v.threshold (length s.members)

module _ (s : Record) (v : Viewer) where
  -- the bot and the members in voice stand there always
  abbrev pub is_near : ℕ → Bool
  is_near user = (user == v.user) || has_id voice_id user s.voices

  -- with GUILD_PRESENCES all members of a guild that is not large, and those with a presence
  abbrev pub is_shown : Member → Bool
  is_shown m = is_near m.user.id || (has_bit v.intents guild_presences && (not (is_large s v) || has_id presence_id m.user.id s.presences))

  -- with GUILD_PRESENCES all presences, else those of the members that stand there
  abbrev pub is_told : Presence → Bool
  is_told p = has_bit v.intents guild_presences || is_near p.user

  abbrev pub joined_at : ThreadMember → ℕ
  joined_at m = m.joined

  abbrev pub thread_told : Thread → JoinedThread
  thread_told t = record { thread = thread_object s.id t; joined = option_map joined_at (find_id thread_member_id v.user t.members) }

  -- where nothing is withheld, to a viewer with this member
  unfoldable pub whole_greeting : Member → GuildCreate
  whole_greeting me = record {
    id = s.id;
    name = s.name;
    owner = s.owner;
    roles = s.roles;
    channels = map (channel_object s.id) s.channels;
    members = map member_object (filter is_shown s.members);
    member_count = length s.members;
    large = is_large s v;
    threads = map thread_told (seen_threads s me);
    voices = map voice_object (listed v.intents guild_voice_states s.voices);
    presences = map (presence_object s.id) (filter is_told s.presences);
  }

-- what a viewer with this member is told: the channels and voice states that the member is shown, and who is in voice
-- by these
abbrev pub greeting : Record → Viewer → Member → GuildCreate
greeting s v me = whole_greeting (shown_part s me) v me
