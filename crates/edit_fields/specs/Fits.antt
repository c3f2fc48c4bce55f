-- Fields within the ranges of their types.
use Rattle.std.specs.Prelude.{ℕ, ◌<◌, ◌^◌, List, [], ◌∷◌, Option, Some, None}
use Rattle.guild_model.specs.declared.moment.TheConstants.{END_OF_TIME}
use Rattle.edit_apply.specs.declared.Edit.{Edit}
use Rattle.edit_apply.specs.declared.Edit.TheVariants as edit
use Rattle.edit_apply.specs.declared.guild.GuildEdit.{GuildEdit}
use Rattle.edit_apply.specs.declared.guild.GuildEdit.TheVariants.{GuildOpen, GuildRename, GuildOwner, GuildOutage, GuildBack, GuildPrivate}
use Rattle.role_member_edit.specs.declared.RoleMemberEdit.{RoleMemberEdit}
use Rattle.role_member_edit.specs.declared.RoleMemberEdit.TheVariants.{RoleCreate, RoleUpdate, RoleDelete, MemberAdd, MemberRemove, MemberNick, MemberTimeout, MemberRoleAdd, MemberRoleRemove}
use Rattle.channel_edit.specs.declared.ChannelEdit.{ChannelEdit}
use Rattle.channel_edit.specs.declared.ChannelEdit.TheVariants.{ChannelCreate, ChannelUpdate, ChannelDelete, OverwriteSet, OverwriteDelete}
use Rattle.thread_edit.specs.declared.ThreadEdit.{ThreadEdit}
use Rattle.thread_edit.specs.declared.ThreadEdit.TheVariants.{ThreadCreate, ThreadRename, ThreadArchive, ThreadUnarchive, ThreadDelete, ThreadJoin, ThreadLeave}
use Rattle.voice_presence.specs.declared.VoicePresenceEdit.{VoicePresenceEdit}
use Rattle.voice_presence.specs.declared.VoicePresenceEdit.TheVariants.{VoiceSet, PresenceSet}
use Rattle.message_edit.specs.declared.MessageEdit.{MessageEdit}
use Rattle.message_edit.specs.declared.MessageEdit.TheVariants.{MessageCreate, MessageUpdate, MessageDelete, ReactionAdd, ReactionRemove, Typing}

abbrev pub IdFits : ℕ → Type 0
IdFits id = id < 2 ^ 64

abbrev pub NullableIdFits : Option ℕ → Type 0
NullableIdFits None = Unit {0}
NullableIdFits (Some id) = IdFits id

abbrev pub IdsFit : List ℕ → Type 0
IdsFit [] = Unit {0}
IdsFit (id ∷ ids) = IdFits id × IdsFit ids

abbrev pub MaskFits : ℕ → Type 0
MaskFits mask = mask < 2 ^ 53

abbrev pub MomentFits : ℕ → Type 0
MomentFits at = at < END_OF_TIME

abbrev pub NullableMomentFits : Option ℕ → Type 0
NullableMomentFits None = Unit {0}
NullableMomentFits (Some at) = MomentFits at

abbrev pub GuildEditFits : GuildEdit → Type 0
GuildEditFits (GuildOpen e) = IdFits e.owner × MaskFits e.perms × MomentFits e.at
GuildEditFits (GuildRename name) = Unit {0}
GuildEditFits (GuildOwner user) = IdFits user
GuildEditFits GuildOutage = Unit {0}
GuildEditFits GuildBack = Unit {0}
GuildEditFits (GuildPrivate private) = Unit {0}

abbrev pub RoleMemberEditFits : RoleMemberEdit → Type 0
RoleMemberEditFits (RoleCreate body) = IdFits body.role × MaskFits body.perms
RoleMemberEditFits (RoleUpdate body) = IdFits body.role × MaskFits body.perms
RoleMemberEditFits (RoleDelete role) = IdFits role
RoleMemberEditFits (MemberAdd e) = IdFits e.user × MomentFits e.at
RoleMemberEditFits (MemberRemove user) = IdFits user
RoleMemberEditFits (MemberNick e) = IdFits e.user
RoleMemberEditFits (MemberTimeout e) = IdFits e.user × NullableMomentFits e.until
RoleMemberEditFits (MemberRoleAdd held) = IdFits held.user × IdFits held.role
RoleMemberEditFits (MemberRoleRemove held) = IdFits held.user × IdFits held.role

abbrev pub ChannelEditFits : ChannelEdit → Type 0
ChannelEditFits (ChannelCreate e) = IdFits e.channel × NullableIdFits e.parent
ChannelEditFits (ChannelUpdate e) = IdFits e.channel × NullableIdFits e.parent
ChannelEditFits (ChannelDelete channel) = IdFits channel
ChannelEditFits (OverwriteSet e) = IdFits e.channel × IdFits e.id × MaskFits e.allow × MaskFits e.deny
ChannelEditFits (OverwriteDelete e) = IdFits e.channel × IdFits e.id

abbrev pub ThreadEditFits : ThreadEdit → Type 0
ThreadEditFits (ThreadCreate e) = IdFits e.thread × IdFits e.parent × IdFits e.owner × MomentFits e.at
ThreadEditFits (ThreadRename e) = IdFits e.thread
ThreadEditFits (ThreadArchive thread) = IdFits thread
ThreadEditFits (ThreadUnarchive thread) = IdFits thread
ThreadEditFits (ThreadDelete thread) = IdFits thread
ThreadEditFits (ThreadJoin e) = IdFits e.thread × IdFits e.user × MomentFits e.at
ThreadEditFits (ThreadLeave e) = IdFits e.thread × IdFits e.user

abbrev pub VoicePresenceEditFits : VoicePresenceEdit → Type 0
VoicePresenceEditFits (VoiceSet e) = IdFits e.user × NullableIdFits e.channel
VoicePresenceEditFits (PresenceSet e) = IdFits e.user

abbrev pub MessageEditFits : MessageEdit → Type 0
MessageEditFits (MessageCreate e) =
    IdFits e.message × IdFits e.channel × IdFits e.author × IdsFit e.body.mentions
MessageEditFits (MessageUpdate e) = IdFits e.message × IdsFit e.body.mentions
MessageEditFits (MessageDelete message) = IdFits message
MessageEditFits (ReactionAdd body) = IdFits body.message × IdFits body.user
MessageEditFits (ReactionRemove body) = IdFits body.message × IdFits body.user
MessageEditFits (Typing e) = IdFits e.channel × IdFits e.user × MomentFits e.at

abbrev pub EditFits : Edit → Type 0
EditFits (edit.Guild e) = GuildEditFits e
EditFits (edit.RoleMember e) = RoleMemberEditFits e
EditFits (edit.Channel e) = ChannelEditFits e
EditFits (edit.Thread e) = ThreadEditFits e
EditFits (edit.VoicePresence e) = VoicePresenceEditFits e
EditFits (edit.Message e) = MessageEditFits e
