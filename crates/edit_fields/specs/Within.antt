-- Which edits a reader takes: those within the limits of their fields.
use Rattle.std.specs.Prelude.{ℕ, ◌^◌, length, Bool, true, not, ◌&&◌, nat_lt}
use Rattle.edit_apply.specs.declared.Edit.{Edit}
use Rattle.edit_apply.specs.declared.Edit.TheVariants as edit
use Rattle.role_member_edit.specs.declared.RoleMemberEdit.{RoleMemberEdit}
use Rattle.role_member_edit.specs.declared.RoleMemberEdit.TheVariants.{RoleCreate, RoleUpdate, RoleDelete, MemberAdd, MemberRemove, MemberNick, MemberTimeout, MemberRoleAdd, MemberRoleRemove}
use Rattle.channel_edit.specs.declared.ChannelEdit.{ChannelEdit}
use Rattle.channel_edit.specs.declared.ChannelEdit.TheVariants.{ChannelCreate, ChannelUpdate, ChannelDelete, OverwriteSet, OverwriteDelete}
use Rattle.message_edit.specs.declared.body.MessageBody.{MessageBody}
use Rattle.message_edit.specs.declared.MessageEdit.{MessageEdit}
use Rattle.message_edit.specs.declared.MessageEdit.TheVariants.{MessageCreate, MessageUpdate, MessageDelete, ReactionAdd, ReactionRemove, Typing}

abbrev pub is_in_place : ℕ → Bool
is_in_place position = nat_lt position (2 ^ 31)

abbrev pub role_member_within : RoleMemberEdit → Bool
role_member_within (RoleCreate body) = is_in_place body.position
role_member_within (RoleUpdate body) = is_in_place body.position
role_member_within (RoleDelete role) = true
role_member_within (MemberAdd e) = true
role_member_within (MemberRemove user) = true
role_member_within (MemberNick e) = true
role_member_within (MemberTimeout e) = true
role_member_within (MemberRoleAdd held) = true
role_member_within (MemberRoleRemove held) = true

abbrev pub channel_within : ChannelEdit → Bool
channel_within (ChannelCreate e) = is_in_place e.position
channel_within (ChannelUpdate e) = is_in_place e.position
channel_within (ChannelDelete channel) = true
channel_within (OverwriteSet e) = true
channel_within (OverwriteDelete e) = true

-- embeds, attachments or components, of each at most 10
abbrev pub are_few : ℕ → Bool
are_few parts = nat_lt parts 11

abbrev pub body_within : MessageBody → Bool
body_within body =
    not (nat_lt 100 (length body.mentions))
    && (are_few body.embeds && (are_few body.attachments && are_few body.components))

abbrev pub message_within : MessageEdit → Bool
message_within (MessageCreate e) = body_within e.body
message_within (MessageUpdate e) = body_within e.body
message_within (MessageDelete message) = true
message_within (ReactionAdd body) = true
message_within (ReactionRemove body) = true
message_within (Typing e) = true

abbrev pub edit_within : Edit → Bool
edit_within (edit.Guild e) = true
edit_within (edit.RoleMember e) = role_member_within e
edit_within (edit.Channel e) = channel_within e
edit_within (edit.Thread e) = true
edit_within (edit.VoicePresence e) = true
edit_within (edit.Message e) = message_within e
