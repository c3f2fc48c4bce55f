-- Of all edits one alone sets whether a guild withholds channels.
use Rattle.std.proofs.Common.{◌≡◌, ℕ, Bool, true, false, ◌||◌, Option, Some, None, refl, ap, ◌∙◌}
use Rattle.std.specs.Prelude.{option_map}
use Rattle.collections.specs.ById.{find_id}
use Rattle.guild_model.specs.declared.presence.ShownStatus.{ShownStatus}
use Rattle.guild_model.specs.declared.user.User.{User}
use Rattle.guild_model.specs.declared.member.Member.{Member}
use Rattle.guild_model.specs.Record.{Record, member_id}
use Rattle.guild_model.specs.Sight.{standing}
use Rattle.guild_model.specs.Statuses.{status_shown}
use Rattle.role_member_edit.specs.declared.RoleMemberEdit.{RoleMemberEdit}
use Rattle.role_member_edit.specs.declared.RoleMemberEdit.TheVariants.{RoleCreate, RoleUpdate, RoleDelete, MemberAdd, MemberRemove, MemberNick, MemberTimeout, MemberRoleAdd, MemberRoleRemove}
use Rattle.role_member_edit.specs.RoleMember.{role_member_applied}
use Rattle.channel_edit.specs.declared.ChannelEdit.{ChannelEdit}
use Rattle.channel_edit.specs.declared.ChannelEdit.TheVariants.{ChannelCreate, ChannelUpdate, ChannelDelete, OverwriteSet, OverwriteDelete}
use Rattle.channel_edit.specs.ChannelEdits.{channel_applied}
use Rattle.thread_edit.specs.declared.ThreadEdit.{ThreadEdit}
use Rattle.thread_edit.specs.declared.ThreadEdit.TheVariants as thread
use Rattle.thread_edit.specs.ThreadEdits.{thread_applied}
use Rattle.voice_presence.specs.declared.VoicePresenceEdit.{VoicePresenceEdit}
use Rattle.voice_presence.specs.declared.VoicePresenceEdit.TheVariants.{VoiceSet, PresenceSet}
use Rattle.voice_presence.specs.Voices.{with_voice}
use Rattle.voice_presence.specs.Presences.{with_shown_status}
use Rattle.voice_presence.specs.VoicePresence.{voice_presence_applied}
use Rattle.message_edit.specs.declared.MessageEdit.{MessageEdit}
use Rattle.message_edit.specs.declared.MessageEdit.TheVariants as message
use Rattle.message_edit.specs.Messages.{member_user, written_by}
use Rattle.message_edit.specs.MessageEdits.{message_applied}
use Rattle.edit_apply.specs.declared.guild.GuildEdit.TheVariants.{GuildOpen, GuildRename, GuildOwner, GuildOutage, GuildBack, GuildPrivate}
use Rattle.edit_apply.specs.declared.Edit.{Edit}
use Rattle.edit_apply.specs.declared.Edit.TheVariants as edit
use Rattle.edit_apply.specs.Edits.{applied}
use Rattle.edit_events.specs.Due.{withholds}
use Rattle.edit_events.specs.Was.{will_withhold}

pub role_member-flag : (s : Record) (e : RoleMemberEdit) → (role_member_applied s e).private ≡ s.private
role_member-flag s (RoleCreate body) = refl
role_member-flag s (RoleUpdate body) = refl
role_member-flag s (RoleDelete role) = refl
role_member-flag s (MemberAdd add) = refl
role_member-flag s (MemberRemove user) = refl
role_member-flag s (MemberNick nick) = refl
role_member-flag s (MemberTimeout timeout) = refl
role_member-flag s (MemberRoleAdd held) = refl
role_member-flag s (MemberRoleRemove held) = refl

pub channel-flag : (s : Record) (e : ChannelEdit) → (channel_applied s e).private ≡ s.private
channel-flag s (ChannelCreate create) = refl
channel-flag s (ChannelUpdate update) = refl
channel-flag s (ChannelDelete channel) = refl
channel-flag s (OverwriteSet set) = refl
channel-flag s (OverwriteDelete delete) = refl

pub thread-flag : (s : Record) (e : ThreadEdit) → (thread_applied s e).private ≡ s.private
thread-flag s (thread.ThreadCreate create) = refl
thread-flag s (thread.ThreadRename rename) = refl
thread-flag s (thread.ThreadArchive id) = refl
thread-flag s (thread.ThreadUnarchive id) = refl
thread-flag s (thread.ThreadDelete id) = refl
thread-flag s (thread.ThreadJoin join) = refl
thread-flag s (thread.ThreadLeave leave) = refl

pub voice_presence-flag : (s : Record) (e : VoicePresenceEdit) → (voice_presence_applied s e).private ≡ s.private
voice_presence-flag s (VoiceSet set) = by_channel set.channel
  where
    by_channel : (o : Option ℕ) → (with_voice s set o).private ≡ s.private
    by_channel None = refl
    by_channel (Some channel) = refl
voice_presence-flag s (PresenceSet set) = by_shown (status_shown set.status)
  where
    by_shown : (a : Option ShownStatus) → (with_shown_status s set.user a).private ≡ s.private
    by_shown None = refl
    by_shown (Some a) = refl

-- an edit of messages leaves what a member sees as it is
pub message-flag : (s : Record) (e : MessageEdit) → (message_applied s e).private ≡ s.private
message-flag s (message.MessageCreate e) = by_author (option_map member_user (find_id member_id e.author s.members))
  where
    by_author : (o : Option User) → (written_by s e o).private ≡ s.private
    by_author None = refl
    by_author (Some author) = refl
message-flag s (message.MessageUpdate e) = refl
message-flag s (message.MessageDelete id) = refl
message-flag s (message.ReactionAdd reaction) = refl
message-flag s (message.ReactionRemove reaction) = refl
message-flag s (message.Typing e) = refl

pub message-standing : (s : Record) (e : MessageEdit) (m : Member) → standing (message_applied s e) m ≡ standing s m
message-standing s (message.MessageCreate e) m = by_author (option_map member_user (find_id member_id e.author s.members))
  where
    by_author : (o : Option User) → standing (written_by s e o) m ≡ standing s m
    by_author None = refl
    by_author (Some author) = refl
message-standing s (message.MessageUpdate e) m = refl
message-standing s (message.MessageDelete id) m = refl
message-standing s (message.ReactionAdd reaction) m = refl
message-standing s (message.ReactionRemove reaction) m = refl
message-standing s (message.Typing e) m = refl

or-same : (b : Bool) → (b || b) ≡ b
or-same true = refl
or-same false = refl

-- where the flag stays as it was
stays : (s t : Record) → t.private ≡ s.private → (s.private || t.private) ≡ s.private
stays s t kept = ap (λ b. s.private || b) kept ∙ or-same s.private

-- what the edit says before it is made
pub as-noted : (s : Record) (e : Edit) → withholds s (applied s e) e ≡ will_withhold s e
as-noted s (edit.Guild (GuildOpen opening)) = or-same s.private
as-noted s (edit.Guild (GuildRename name)) = or-same s.private
as-noted s (edit.Guild (GuildOwner user)) = or-same s.private
as-noted s (edit.Guild GuildOutage) = or-same s.private
as-noted s (edit.Guild GuildBack) = or-same s.private
as-noted s (edit.Guild (GuildPrivate private)) = refl
as-noted s (edit.RoleMember e) = stays s (role_member_applied s e) (role_member-flag s e)
as-noted s (edit.Channel e) = stays s (channel_applied s e) (channel-flag s e)
as-noted s (edit.Thread e) = stays s (thread_applied s e) (thread-flag s e)
as-noted s (edit.VoicePresence e) = stays s (voice_presence_applied s e) (voice_presence-flag s e)
as-noted s (edit.Message e) = refl
