-- internal: the same dispatches by what was noted before an edit; that they are those of `Dispatches` is proved.
use Rattle.std.specs.Prelude.{ℕ, List, [], ◌++◌}
use Rattle.guild_model.specs.declared.member.Member.{Member}
use Rattle.guild_model.specs.Record.{Record}
use Rattle.channel_edit.specs.declared.ChannelEdit.{ChannelEdit}
use Rattle.channel_edit.specs.declared.ChannelEdit.TheVariants as edit
use Rattle.dispatch_types.specs.declared.viewer.Viewer.{Viewer}
use Rattle.dispatch_types.specs.declared.dispatch.Dispatch.{Dispatch}
use Rattle.thread_sync.specs.ChannelSights.{sight_of, by_sight}
use Rattle.thread_sync.specs.Sync.{list_sync}
use Rattle.event_views.specs.Asked.{told_if}
use Rattle.channel_events.specs.declared.ends.ChannelNote.{ChannelNote}
use Rattle.channel_events.specs.declared.ends.ChannelNote.TheVariants.{Nothing, Sight, Leaving}
use Rattle.channel_events.specs.Dispatches.{created, updated, channel_ends}

-- `s` is the record after the edit
module _ (s : Record) (v : Viewer) where
  -- what ends with a deleted channel
  abbrev pub ended_by_note : ChannelNote → List Dispatch
  ended_by_note (Leaving end) = channel_ends s v end.channel end.voices end.children
  ended_by_note (Sight before) = []
  ended_by_note Nothing = []

  -- the sync, by the sight of the channel before
  abbrev pub synced_by_note : ChannelNote → Member → List Dispatch
  synced_by_note (Sight before) me =
      told_if v (list_sync (by_sight before) (by_sight (sight_of s me before.channel)) s me.user.id)
  synced_by_note (Leaving end) me = []
  synced_by_note Nothing me = []

  abbrev pub rights_by_note : ChannelNote → Member → ℕ → List Dispatch
  rights_by_note note me channel = updated s v channel ++ synced_by_note note me

-- `me` is the viewer's own member after the edit
abbrev pub channel_by_note : ChannelNote → Record → Viewer → Member → ChannelEdit → List Dispatch
channel_by_note note s v me (edit.ChannelCreate e) = created s v e.channel
channel_by_note note s v me (edit.ChannelUpdate e) = updated s v e.channel
channel_by_note note s v me (edit.ChannelDelete channel) = ended_by_note s v note
channel_by_note note s v me (edit.OverwriteSet e) = rights_by_note s v note me e.channel
channel_by_note note s v me (edit.OverwriteDelete e) = rights_by_note s v note me e.channel
