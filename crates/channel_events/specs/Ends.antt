-- What has to be known of the record before an edit of channels or overwrites.
use Rattle.std.specs.Prelude.{ℕ, Option, Some, None}
use Rattle.collections.specs.ById.{find_id}
use Rattle.guild_model.specs.declared.member.Member.{Member}
use Rattle.guild_model.specs.declared.channel.Channel.{Channel}
use Rattle.guild_model.specs.Record.{Record, channel_id}
use Rattle.channel_edit.specs.declared.ChannelEdit.{ChannelEdit}
use Rattle.channel_edit.specs.declared.ChannelEdit.TheVariants.{ChannelCreate, ChannelUpdate, ChannelDelete, OverwriteSet, OverwriteDelete}
use Rattle.thread_sync.specs.ChannelSights.{sight_of}
use Rattle.channel_events.specs.declared.ends.ChannelEnd.{ChannelEnd}
use Rattle.channel_events.specs.declared.ends.ChannelNote.{ChannelNote}
use Rattle.channel_events.specs.declared.ends.ChannelNote.TheVariants.{Nothing, Sight, Leaving}
use Rattle.channel_events.specs.Dispatches.{voices_in, children_of}

-- of a channel that is deleted: the channel, the voice states in it, and its children
abbrev pub end_of : Record → Channel → ChannelEnd
end_of s c = record { channel = c; voices = voices_in s c.id; children = children_of s c.id }

abbrev pub before_end : Record → Option Channel → ChannelNote
before_end s None = Nothing
before_end s (Some c) = Leaving (end_of s c)

-- of a change of overwrites: the sight of the channel, since nothing else comes into sight
abbrev pub before_overwrites : Record → Member → ℕ → ChannelNote
before_overwrites s me channel = Sight (sight_of s me channel)

abbrev pub channel_note : Record → Member → ChannelEdit → ChannelNote
channel_note s me (ChannelCreate edit) = Nothing
channel_note s me (ChannelUpdate edit) = Nothing
channel_note s me (ChannelDelete channel) = before_end s (find_id channel_id channel s.channels)
channel_note s me (OverwriteSet edit) = before_overwrites s me edit.channel
channel_note s me (OverwriteDelete edit) = before_overwrites s me edit.channel
