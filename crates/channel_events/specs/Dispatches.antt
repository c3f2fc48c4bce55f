-- What an edit of channels or overwrites owes to a viewer that is served before and after it, by the records
-- before and after (Gateway Events, Channels; Voice). That the users in a deleted channel are told to be in
-- voice no longer, that its children are told as updated, and that both come before its own end, is this
-- server's choice; so is the sync after a change of overwrites.
use Rattle.std.specs.Prelude.{ℕ, List, [], ◌++◌, map, filter, flat_map, Bool, false, ◌==◌, Option, Some, None}
use Rattle.std.specs.Option.{option_map_or}
use Rattle.collections.specs.ById.{find_id}
use Rattle.guild_model.specs.declared.member.Member.{Member}
use Rattle.guild_model.specs.declared.channel.Channel.{Channel}
use Rattle.guild_model.specs.declared.voice.Voice.{Voice}
use Rattle.guild_model.specs.Record.{Record, channel_id, speaks_in}
use Rattle.channel_edit.specs.declared.ChannelEdit.{ChannelEdit}
use Rattle.channel_edit.specs.declared.ChannelEdit.TheVariants as edit
use Rattle.dispatch_types.specs.declared.viewer.Viewer.{Viewer}
use Rattle.dispatch_types.specs.declared.channels.ChannelObject.{ChannelObject}
use Rattle.dispatch_types.specs.declared.dispatch.Dispatch.{Dispatch}
use Rattle.dispatch_types.specs.declared.dispatch.Dispatch.TheVariants.{ChannelCreate, ChannelUpdate, ChannelDelete}
use Rattle.dispatch_types.specs.Objects.{channel_object}
use Rattle.event_views.specs.Asked.{asked}
use Rattle.event_views.specs.Ended.{voice_ends}
use Rattle.event_views.specs.Synced.{synced}

-- a channel whose parent it is
abbrev pub is_child : ℕ → Channel → Bool
is_child channel c = option_map_or (λ parent. parent == channel) c.parent false

abbrev pub voices_in : Record → ℕ → List Voice
voices_in s channel = filter (speaks_in channel) s.voices

abbrev pub children_of : Record → ℕ → List ℕ
children_of s channel = map channel_id (filter (is_child channel) s.channels)

-- `s` is the record after the edit
module _ (s : Record) (v : Viewer) where
  abbrev pub told_of : (ChannelObject → Dispatch) → Option Channel → List Dispatch
  told_of kind None = []
  told_of kind (Some c) = asked v false (kind (channel_object s.id c))

  -- CHANNEL_CREATE and CHANNEL_UPDATE of a channel as it then is
  abbrev pub created : ℕ → List Dispatch
  created channel = told_of ChannelCreate (find_id channel_id channel s.channels)

  abbrev pub updated : ℕ → List Dispatch
  updated channel = told_of ChannelUpdate (find_id channel_id channel s.channels)

  -- CHANNEL_DELETE of a channel as it was
  abbrev pub gone : Channel → List Dispatch
  gone c = asked v false (ChannelDelete (channel_object s.id c))

  -- the end of a channel: before it of these voice states in it, and of its children, which have no parent now
  abbrev pub channel_ends : Channel → List Voice → List ℕ → List Dispatch
  channel_ends c voices children =
      flat_map (voice_ends s.id v) voices ++ (flat_map updated children ++ gone c)

-- of a channel of the record before
abbrev pub deleted : Record → Record → Viewer → Option Channel → List Dispatch
deleted before after v None = []
deleted before after v (Some c) = channel_ends after v c (voices_in before c.id) (children_of before c.id)

-- the dispatches of an edit in order, by the record before it and the record after, with the viewer's own
-- member in each
module _ (before : Record) (me : Member) (after : Record) (me' : Member) (v : Viewer) where
  -- after a change of overwrites: the channel, and then THREAD_LIST_SYNC of what it uncovers, if the viewer gains
  abbrev pub rights_changed : ℕ → List Dispatch
  rights_changed channel = updated after v channel ++ synced before me after me' v

  abbrev pub channel_dispatches : ChannelEdit → List Dispatch
  channel_dispatches (edit.ChannelCreate e) = created after v e.channel
  channel_dispatches (edit.ChannelUpdate e) = updated after v e.channel
  channel_dispatches (edit.ChannelDelete channel) =
      deleted before after v (find_id channel_id channel before.channels)
  channel_dispatches (edit.OverwriteSet e) = rights_changed e.channel
  channel_dispatches (edit.OverwriteDelete e) = rights_changed e.channel
