-- What an accepted edit owes to a viewer that is served before and after it, of a guild that withholds no channels
-- (Gateway Events, Receive Events).
use Rattle.std.specs.Prelude.{List, [], ◌++◌, false}
use Rattle.guild_model.specs.declared.member.Member.{Member}
use Rattle.guild_model.specs.Record.{Record}
use Rattle.dispatch_types.specs.declared.viewer.Viewer.{Viewer}
use Rattle.dispatch_types.specs.declared.dispatch.Dispatch.{Dispatch}
use Rattle.dispatch_types.specs.declared.dispatch.Dispatch.TheVariants.{GuildUpdate}
use Rattle.event_views.specs.Asked.{asked}
use Rattle.event_views.specs.Synced.{synced}
use Rattle.role_member_events.specs.Dispatches.{role_member_dispatches}
use Rattle.channel_events.specs.Dispatches.{channel_dispatches}
use Rattle.thread_events.specs.Dispatches.{thread_dispatches}
use Rattle.voice_presence_events.specs.Dispatches.{voice_presence_dispatches}
use Rattle.message_events.specs.Notes.{message_note}
use Rattle.message_events.specs.Dispatches.{message_dispatches}
use Rattle.edit_apply.specs.declared.Edit.{Edit}
use Rattle.edit_apply.specs.declared.Edit.TheVariants as edit
use Rattle.edit_apply.specs.declared.guild.GuildEdit.TheVariants.{GuildRename, GuildOwner}

-- the guild's name and owner
abbrev pub guild_updated : Record → Viewer → List Dispatch
guild_updated after v =
    asked v false (GuildUpdate (record { id = after.id; name = after.name; owner = after.owner }))

-- by the record before the edit and the record after, with the viewer's own member in each; an edit that opens a
-- guild, begins or ends an outage or sets whether channels are withheld has none of its own here
abbrev pub whole_dispatches : Record → Member → Record → Member → Viewer → Edit → List Dispatch
whole_dispatches before me after me' v (edit.Guild (GuildRename name)) = guild_updated after v
whole_dispatches before me after me' v (edit.Guild (GuildOwner user)) = guild_updated after v ++ synced before me after me' v
whole_dispatches before me after me' v (edit.RoleMember e) = role_member_dispatches before me after me' v e
whole_dispatches before me after me' v (edit.Channel e) = channel_dispatches before me after me' v e
whole_dispatches before me after me' v (edit.Thread e) = thread_dispatches before me after me' v e
whole_dispatches before me after me' v (edit.VoicePresence e) = voice_presence_dispatches after v e
whole_dispatches before me after me' v (edit.Message e) = message_dispatches after v (message_note before e) e
whole_dispatches before me after me' v _ = []
