-- internal: what an accepted edit owes by what was noted before it; that it is what is owed is a law.
use Rattle.std.specs.Prelude.{List, [], ◌++◌}
use Rattle.guild_model.specs.declared.member.Member.{Member}
use Rattle.guild_model.specs.Record.{Record}
use Rattle.dispatch_types.specs.declared.viewer.Viewer.{Viewer}
use Rattle.dispatch_types.specs.declared.dispatch.Dispatch.{Dispatch}
use Rattle.thread_sync.specs.ChannelSights.{by_sights}
use Rattle.thread_sync.specs.Sync.{uncovered_to}
use Rattle.event_views.specs.Asked.{told_if}
use Rattle.role_member_events.specs.ByNote.{role_member_by_note}
use Rattle.channel_events.specs.ByNote.{channel_by_note}
use Rattle.thread_events.specs.ByNote.{thread_by_note}
use Rattle.voice_presence_events.specs.Dispatches.{voice_presence_dispatches}
use Rattle.message_events.specs.Dispatches.{message_dispatches}
use Rattle.edit_apply.specs.declared.Edit.{Edit}
use Rattle.edit_apply.specs.declared.Edit.TheVariants as edit
use Rattle.edit_apply.specs.declared.guild.GuildEdit.TheVariants.{GuildRename, GuildOwner}
use Rattle.whole_events.specs.declared.dispatches.Before.{Before}
use Rattle.whole_events.specs.declared.dispatches.Before.TheVariants.{Owner, RoleMember, Channel, Thread, Message}
use Rattle.whole_events.specs.Dispatches.{guild_updated}

-- with the record after it and the viewer's own member there
abbrev pub by_note : Before → Record → Viewer → Member → Edit → List Dispatch
by_note note after v me (edit.Guild (GuildRename name)) = guild_updated after v
by_note (Owner before) after v me (edit.Guild (GuildOwner user)) =
    guild_updated after v ++ told_if v (uncovered_to (by_sights before) after me)
by_note (RoleMember note) after v me (edit.RoleMember e) = role_member_by_note note after v me e
by_note (Channel note) after v me (edit.Channel e) = channel_by_note note after v me e
by_note (Thread note) after v me (edit.Thread e) = thread_by_note note after v me e
by_note note after v me (edit.VoicePresence e) = voice_presence_dispatches after v e
by_note (Message note) after v me (edit.Message e) = message_dispatches after v note e
by_note note after v me _ = []
