-- Which of a user's masks an edit may change (Permissions, Permission Hierarchy and Permission
-- Overwrites).
use Rattle.std.specs.Prelude.{ℕ, ◌==◌, if◌then◌else◌}
use Rattle.role_member_edit.specs.declared.RoleMemberEdit.{RoleMemberEdit}
use Rattle.role_member_edit.specs.declared.RoleMemberEdit.TheVariants.{RoleCreate, RoleUpdate, RoleDelete, MemberAdd, MemberRemove, MemberNick, MemberTimeout, MemberRoleAdd, MemberRoleRemove}
use Rattle.channel_edit.specs.declared.ChannelEdit.{ChannelEdit}
use Rattle.channel_edit.specs.declared.ChannelEdit.TheVariants.{ChannelCreate, ChannelUpdate, ChannelDelete, OverwriteSet, OverwriteDelete}
use Rattle.edit_apply.specs.declared.guild.GuildEdit.{GuildEdit}
use Rattle.edit_apply.specs.declared.guild.GuildEdit.TheVariants.{GuildOpen, GuildRename, GuildOwner, GuildOutage, GuildBack, GuildPrivate}
use Rattle.edit_apply.specs.declared.Edit.{Edit}
use Rattle.edit_apply.specs.declared.Edit.TheVariants as edit
use Rattle.mask_cache.specs.declared.mask_change.MaskChange.{MaskChange}
use Rattle.mask_cache.specs.declared.mask_change.MaskChange.TheVariants.{Nothing, Gone, InChannel, All}

abbrev pub guild_change : GuildEdit → MaskChange
guild_change (GuildOpen opens) = All
guild_change (GuildRename name) = Nothing
guild_change (GuildOwner user) = All
guild_change GuildOutage = Nothing
guild_change GuildBack = Nothing
guild_change (GuildPrivate private) = Nothing

-- a change of the roles that a member holds changes no mask of another
abbrev pub roles_change : ℕ → ℕ → MaskChange
roles_change holder user = if holder == user then All else Nothing

-- a role that is created is held by nobody yet
abbrev pub role_member_change : ℕ → RoleMemberEdit → MaskChange
role_member_change user (RoleCreate body) = Nothing
role_member_change user (RoleUpdate body) = All
role_member_change user (RoleDelete role) = All
role_member_change user (MemberAdd add) = Nothing
role_member_change user (MemberRemove removed) = Nothing
role_member_change user (MemberNick nick) = Nothing
role_member_change user (MemberTimeout timeout) = Nothing
role_member_change user (MemberRoleAdd held) = roles_change held.user user
role_member_change user (MemberRoleRemove held) = roles_change held.user user

-- overwrites count in their own channel alone
abbrev pub channel_change : ChannelEdit → MaskChange
channel_change (ChannelCreate create) = InChannel create.channel
channel_change (ChannelUpdate update) = Nothing
channel_change (ChannelDelete channel) = Gone channel
channel_change (OverwriteSet set) = InChannel set.channel
channel_change (OverwriteDelete delete) = InChannel delete.channel

abbrev pub mask_change : ℕ → Edit → MaskChange
mask_change user (edit.Guild e) = guild_change e
mask_change user (edit.RoleMember e) = role_member_change user e
mask_change user (edit.Channel e) = channel_change e
mask_change user (edit.Thread e) = Nothing
mask_change user (edit.VoicePresence e) = Nothing
mask_change user (edit.Message e) = Nothing
