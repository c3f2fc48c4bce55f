-- The name of an edit is read as that edit.
use Rattle.std.proofs.Common.{◌≡◌, Some, refl}
use Rattle.edit_fields.specs.declared.names.EditName.{EditName}
use Rattle.edit_fields.specs.declared.names.EditName.TheVariants as name
use Rattle.edit_fields.specs.declared.names.GuildEditName.TheVariants.{GuildOpen, GuildRename, GuildOwner, GuildOutage, GuildBack, GuildPrivate}
use Rattle.edit_fields.specs.declared.names.RoleMemberEditName.TheVariants.{RoleCreate, RoleUpdate, RoleDelete, MemberAdd, MemberRemove, MemberNick, MemberTimeout, MemberRoleAdd, MemberRoleRemove}
use Rattle.edit_fields.specs.declared.names.ChannelEditName.TheVariants.{ChannelCreate, ChannelUpdate, ChannelDelete, OverwriteSet, OverwriteDelete}
use Rattle.edit_fields.specs.declared.names.ThreadEditName.TheVariants.{ThreadCreate, ThreadRename, ThreadArchive, ThreadUnarchive, ThreadDelete, ThreadJoin, ThreadLeave}
use Rattle.edit_fields.specs.declared.names.VoicePresenceEditName.TheVariants.{VoiceSet, PresenceSet}
use Rattle.edit_fields.specs.declared.names.MessageEditName.TheVariants.{MessageCreate, MessageUpdate, MessageDelete, ReactionAdd, ReactionRemove, Typing}
use Rattle.edit_fields.specs.Names.{edit_named, name_text}

pub named_back : (n : EditName) → edit_named (name_text n) ≡ Some n
unfolding edit_named
named_back (name.Guild GuildOpen) = refl
named_back (name.Guild GuildRename) = refl
named_back (name.Guild GuildOwner) = refl
named_back (name.Guild GuildOutage) = refl
named_back (name.Guild GuildBack) = refl
named_back (name.Guild GuildPrivate) = refl
named_back (name.RoleMember RoleCreate) = refl
named_back (name.RoleMember RoleUpdate) = refl
named_back (name.RoleMember RoleDelete) = refl
named_back (name.RoleMember MemberAdd) = refl
named_back (name.RoleMember MemberRemove) = refl
named_back (name.RoleMember MemberNick) = refl
named_back (name.RoleMember MemberTimeout) = refl
named_back (name.RoleMember MemberRoleAdd) = refl
named_back (name.RoleMember MemberRoleRemove) = refl
named_back (name.Channel ChannelCreate) = refl
named_back (name.Channel ChannelUpdate) = refl
named_back (name.Channel ChannelDelete) = refl
named_back (name.Channel OverwriteSet) = refl
named_back (name.Channel OverwriteDelete) = refl
named_back (name.Thread ThreadCreate) = refl
named_back (name.Thread ThreadRename) = refl
named_back (name.Thread ThreadArchive) = refl
named_back (name.Thread ThreadUnarchive) = refl
named_back (name.Thread ThreadDelete) = refl
named_back (name.Thread ThreadJoin) = refl
named_back (name.Thread ThreadLeave) = refl
named_back (name.VoicePresence VoiceSet) = refl
named_back (name.VoicePresence PresenceSet) = refl
named_back (name.Message MessageCreate) = refl
named_back (name.Message MessageUpdate) = refl
named_back (name.Message MessageDelete) = refl
named_back (name.Message ReactionAdd) = refl
named_back (name.Message ReactionRemove) = refl
named_back (name.Message Typing) = refl
