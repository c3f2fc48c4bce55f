-- What has to be known of the record before an edit, of a viewer that is served.
use Rattle.std.specs.Prelude.{List}
use Rattle.guild_model.specs.declared.member.Member.{Member}
use Rattle.guild_model.specs.Record.{Record}
use Rattle.guild_model.specs.Sight.{standing}
use Rattle.thread_sync.specs.declared.channel_sight.ChannelSight.{ChannelSight}
use Rattle.thread_sync.specs.ChannelSights.{sights}
use Rattle.role_member_events.specs.declared.ends.RoleMemberNote.TheVariants.{Sights}
use Rattle.role_member_events.specs.Ends.{role_member_note}
use Rattle.channel_events.specs.Ends.{channel_note}
use Rattle.thread_events.specs.Ends.{thread_note}
use Rattle.message_events.specs.Notes.{message_note}
use Rattle.edit_apply.specs.declared.Edit.{Edit}
use Rattle.edit_apply.specs.declared.Edit.TheVariants as edit
use Rattle.edit_apply.specs.declared.guild.GuildEdit.TheVariants.{GuildOwner}
use Rattle.whole_events.specs.declared.dispatches.Before.{Before}
use Rattle.whole_events.specs.declared.dispatches.Before.TheVariants.{Nothing, Owner, RoleMember, Channel, Thread, Message}

abbrev pub note_of : Record → Member → Edit → Before
note_of s me (edit.Guild (GuildOwner user)) = Owner (sights (standing s me))
note_of s me (edit.RoleMember e) = RoleMember (role_member_note s me e)
note_of s me (edit.Channel e) = Channel (channel_note s me e)
note_of s me (edit.Thread e) = Thread (thread_note s me e)
note_of s me (edit.Message e) = Message (message_note s e)
note_of s me _ = Nothing

-- of an edit that may change what the viewer sees: the sights of its channels
abbrev pub rights_note : Edit → List ChannelSight → Before
rights_note (edit.RoleMember e) sights = RoleMember (Sights sights)
rights_note _ sights = Owner sights
