-- The names of edits.
use Rattle.std.specs.Prelude.{ℕ, List, [], ◌∷◌, ◌++◌, map, Option, codes}
use Rattle.std.specs.List.{find}
use Rattle.std.specs.Str.{bytes_eq}
use Rattle.edit_fields.specs.declared.names.GuildEditName.{GuildEditName}
use Rattle.edit_fields.specs.declared.names.GuildEditName.TheVariants.{GuildOpen, GuildRename, GuildOwner, GuildOutage, GuildBack, GuildPrivate}
use Rattle.edit_fields.specs.declared.names.RoleMemberEditName.{RoleMemberEditName}
use Rattle.edit_fields.specs.declared.names.RoleMemberEditName.TheVariants.{RoleCreate, RoleUpdate, RoleDelete, MemberAdd, MemberRemove, MemberNick, MemberTimeout, MemberRoleAdd, MemberRoleRemove}
use Rattle.edit_fields.specs.declared.names.ChannelEditName.{ChannelEditName}
use Rattle.edit_fields.specs.declared.names.ChannelEditName.TheVariants.{ChannelCreate, ChannelUpdate, ChannelDelete, OverwriteSet, OverwriteDelete}
use Rattle.edit_fields.specs.declared.names.ThreadEditName.{ThreadEditName}
use Rattle.edit_fields.specs.declared.names.ThreadEditName.TheVariants.{ThreadCreate, ThreadRename, ThreadArchive, ThreadUnarchive, ThreadDelete, ThreadJoin, ThreadLeave}
use Rattle.edit_fields.specs.declared.names.VoicePresenceEditName.{VoicePresenceEditName}
use Rattle.edit_fields.specs.declared.names.VoicePresenceEditName.TheVariants.{VoiceSet, PresenceSet}
use Rattle.edit_fields.specs.declared.names.MessageEditName.{MessageEditName}
use Rattle.edit_fields.specs.declared.names.MessageEditName.TheVariants.{MessageCreate, MessageUpdate, MessageDelete, ReactionAdd, ReactionRemove, Typing}
use Rattle.edit_fields.specs.declared.names.EditName.{EditName}
use Rattle.edit_fields.specs.declared.names.EditName.TheVariants.{Guild, RoleMember, Channel, Thread, VoicePresence, Message}

abbrev pub guild_edit_text : GuildEditName → List ℕ
guild_edit_text GuildOpen = codes "guild_open"
guild_edit_text GuildRename = codes "guild_rename"
guild_edit_text GuildOwner = codes "guild_owner"
guild_edit_text GuildOutage = codes "guild_outage"
guild_edit_text GuildBack = codes "guild_back"
guild_edit_text GuildPrivate = codes "guild_private"

abbrev pub role_member_edit_text : RoleMemberEditName → List ℕ
role_member_edit_text RoleCreate = codes "role_create"
role_member_edit_text RoleUpdate = codes "role_update"
role_member_edit_text RoleDelete = codes "role_delete"
role_member_edit_text MemberAdd = codes "member_add"
role_member_edit_text MemberRemove = codes "member_remove"
role_member_edit_text MemberNick = codes "member_nick"
role_member_edit_text MemberTimeout = codes "member_timeout"
role_member_edit_text MemberRoleAdd = codes "member_role_add"
role_member_edit_text MemberRoleRemove = codes "member_role_remove"

abbrev pub channel_edit_text : ChannelEditName → List ℕ
channel_edit_text ChannelCreate = codes "channel_create"
channel_edit_text ChannelUpdate = codes "channel_update"
channel_edit_text ChannelDelete = codes "channel_delete"
channel_edit_text OverwriteSet = codes "overwrite_set"
channel_edit_text OverwriteDelete = codes "overwrite_delete"

abbrev pub thread_edit_text : ThreadEditName → List ℕ
thread_edit_text ThreadCreate = codes "thread_create"
thread_edit_text ThreadRename = codes "thread_rename"
thread_edit_text ThreadArchive = codes "thread_archive"
thread_edit_text ThreadUnarchive = codes "thread_unarchive"
thread_edit_text ThreadDelete = codes "thread_delete"
thread_edit_text ThreadJoin = codes "thread_join"
thread_edit_text ThreadLeave = codes "thread_leave"

abbrev pub voice_presence_edit_text : VoicePresenceEditName → List ℕ
voice_presence_edit_text VoiceSet = codes "voice_set"
voice_presence_edit_text PresenceSet = codes "presence_set"

abbrev pub message_edit_text : MessageEditName → List ℕ
message_edit_text MessageCreate = codes "message_create"
message_edit_text MessageUpdate = codes "message_update"
message_edit_text MessageDelete = codes "message_delete"
message_edit_text ReactionAdd = codes "reaction_add"
message_edit_text ReactionRemove = codes "reaction_remove"
message_edit_text Typing = codes "typing"

abbrev pub name_text : EditName → List ℕ
name_text (Guild name) = guild_edit_text name
name_text (RoleMember name) = role_member_edit_text name
name_text (Channel name) = channel_edit_text name
name_text (Thread name) = thread_edit_text name
name_text (VoicePresence name) = voice_presence_edit_text name
name_text (Message name) = message_edit_text name

abbrev pub edit_names : List EditName
edit_names =
    map Message (MessageCreate ∷ MessageUpdate ∷ MessageDelete ∷ ReactionAdd ∷ ReactionRemove
    ∷ Typing ∷ [])
    ++ map VoicePresence (VoiceSet ∷ PresenceSet ∷ [])
    ++ map Guild (GuildOpen ∷ GuildRename ∷ GuildOwner ∷ GuildOutage ∷ GuildBack ∷ GuildPrivate ∷ [])
    ++ map RoleMember (RoleCreate ∷ RoleUpdate ∷ RoleDelete ∷ MemberAdd ∷ MemberRemove ∷ MemberNick
    ∷ MemberTimeout ∷ MemberRoleAdd ∷ MemberRoleRemove ∷ [])
    ++ map Channel (ChannelCreate ∷ ChannelUpdate ∷ ChannelDelete ∷ OverwriteSet ∷ OverwriteDelete ∷ [])
    ++ map Thread (ThreadCreate ∷ ThreadRename ∷ ThreadArchive ∷ ThreadUnarchive ∷ ThreadDelete
    ∷ ThreadJoin ∷ ThreadLeave ∷ [])

-- the edit of this name
unfoldable pub edit_named : List ℕ → Option EditName
edit_named s = find (λ n. bytes_eq s (name_text n)) edit_names
