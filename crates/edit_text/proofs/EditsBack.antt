-- The line of an edit reads back, nests little and has no float.
use Rattle.std.proofs.Common.{◌≡◌, ℕ, ◌^◌, List, Bool, true, Option, Some, None, refl, arith}
use Rattle.std.specs.Prelude.{nat_lt}
use Rattle.serde_json.proofs.OnLiterals.{serde_json_on_literals}
use Rattle.snowflake_id.proofs.Texts.{id_of_decimal}
use Rattle.edit_apply.specs.declared.Edit.{Edit}
use Rattle.edit_apply.specs.declared.Edit.TheVariants as edit
use Rattle.edit_apply.specs.declared.guild.GuildEdit.{GuildEdit}
use Rattle.edit_apply.specs.declared.guild.GuildEdit.TheVariants.{GuildOpen, GuildRename, GuildOwner, GuildOutage, GuildBack, GuildPrivate}
use Rattle.role_member_edit.specs.declared.RoleMemberEdit.{RoleMemberEdit}
use Rattle.role_member_edit.specs.declared.RoleMemberEdit.TheVariants.{RoleCreate, RoleUpdate, RoleDelete, MemberAdd, MemberRemove, MemberNick, MemberTimeout, MemberRoleAdd, MemberRoleRemove}
use Rattle.channel_edit.specs.declared.ChannelEdit.{ChannelEdit}
use Rattle.channel_edit.specs.declared.ChannelEdit.TheVariants.{ChannelCreate, ChannelUpdate, ChannelDelete, OverwriteSet, OverwriteDelete}
use Rattle.guild_model.specs.declared.channel.ChannelKind.{ChannelKind}
use Rattle.guild_model.proofs.Numbers.{channel_kind_back, overwrite_kind_back}
use Rattle.edit_fields.specs.Fits.{IdFits, NullableIdFits, NullableMomentFits, GuildEditFits, RoleMemberEditFits, ChannelEditFits, EditFits}
use Rattle.edit_fields.specs.Within.{edit_within, role_member_within, channel_within}
use Rattle.edit_text.proofs.ReadsBack.{Back, PlainEdit, mask_below, mask_as_id, moment_below}
use Rattle.edit_text.proofs.ThreadsBack.{thread_back, thread_plain}
use Rattle.edit_text.proofs.VoicesBack.{voice_presence_back, voice_presence_plain}
use Rattle.edit_text.proofs.MessagesBack.{message_back, message_plain}

guild_back : (guild : ℕ) (e : GuildEdit) → IdFits guild → GuildEditFits e → Back guild (edit.Guild e)
unfolding serde_json_on_literals
guild_back guild (GuildOpen e) h k = (
  refl,
  rw (id_of_decimal guild h) refl,
  refl,
  rw (
    id_of_decimal e.owner k.0,
    id_of_decimal e.perms (mask_as_id e.perms k.1),
    mask_below e.perms k.1,
    moment_below e.at k.2,
  ) refl,
)
guild_back guild (GuildRename name) h k = (refl, rw (id_of_decimal guild h) refl, refl, refl)
guild_back guild (GuildOwner user) h k = (refl, rw (id_of_decimal guild h) refl, refl, rw (id_of_decimal user k) refl)
guild_back guild GuildOutage h k = (refl, rw (id_of_decimal guild h) refl, refl, refl)
guild_back guild GuildBack h k = (refl, rw (id_of_decimal guild h) refl, refl, refl)
guild_back guild (GuildPrivate private) h k = (refl, rw (id_of_decimal guild h) refl, refl, refl)

member_nick_back : (guild user : ℕ) (nick : Option (List ℕ)) → IdFits guild → IdFits user
    → Back guild (edit.RoleMember (MemberNick (record { user = user; nick = nick })))
unfolding serde_json_on_literals
member_nick_back guild user None h k = (refl, rw (id_of_decimal guild h) refl, refl, rw (id_of_decimal user k) refl)
member_nick_back guild user (Some nick) h k = (refl, rw (id_of_decimal guild h) refl, refl, rw (id_of_decimal user k) refl)

member_timeout_back : (guild user : ℕ) (until : Option ℕ) → IdFits guild → IdFits user → NullableMomentFits until
    → Back guild (edit.RoleMember (MemberTimeout (record { user = user; until = until })))
unfolding serde_json_on_literals
member_timeout_back guild user None h k t = (refl, rw (id_of_decimal guild h) refl, refl, rw (id_of_decimal user k) refl)
member_timeout_back guild user (Some until) h k t =
    (refl, rw (id_of_decimal guild h) refl, refl, rw (id_of_decimal user k, moment_below until t) refl)

role_member_back : (guild : ℕ) (e : RoleMemberEdit) → IdFits guild → RoleMemberEditFits e → role_member_within e ≡ true → Back guild (edit.RoleMember e)
unfolding serde_json_on_literals
role_member_back guild (RoleCreate body) h k p = (
  refl,
  rw (id_of_decimal guild h) refl,
  refl,
  rw (id_of_decimal body.role k.0, id_of_decimal body.perms (mask_as_id body.perms k.1), mask_below body.perms k.1, p) refl,
)
role_member_back guild (RoleUpdate body) h k p = (
  refl,
  rw (id_of_decimal guild h) refl,
  refl,
  rw (id_of_decimal body.role k.0, id_of_decimal body.perms (mask_as_id body.perms k.1), mask_below body.perms k.1, p) refl,
)
role_member_back guild (RoleDelete role) h k p = (refl, rw (id_of_decimal guild h) refl, refl, rw (id_of_decimal role k) refl)
role_member_back guild (MemberAdd e) h k p =
    (refl, rw (id_of_decimal guild h) refl, refl, rw (id_of_decimal e.user k.0, moment_below e.at k.1) refl)
role_member_back guild (MemberRemove user) h k p = (refl, rw (id_of_decimal guild h) refl, refl, rw (id_of_decimal user k) refl)
role_member_back guild (MemberNick e) h k p = member_nick_back guild e.user e.nick h k
role_member_back guild (MemberTimeout e) h k p = member_timeout_back guild e.user e.until h k.0 k.1
role_member_back guild (MemberRoleAdd held) h k p =
    (refl, rw (id_of_decimal guild h) refl, refl, rw (id_of_decimal held.user k.0, id_of_decimal held.role k.1) refl)
role_member_back guild (MemberRoleRemove held) h k p =
    (refl, rw (id_of_decimal guild h) refl, refl, rw (id_of_decimal held.user k.0, id_of_decimal held.role k.1) refl)

channel_create_back : (guild channel : ℕ) (kind : ChannelKind) (name : List ℕ) (parent : Option ℕ) (position : ℕ) (sync : Bool)
    → IdFits guild → IdFits channel → NullableIdFits parent → nat_lt position (2 ^ 31) ≡ true
    → Back guild (edit.Channel (ChannelCreate (record { channel = channel; kind = kind; name = name; parent = parent; position = position; sync = sync })))
unfolding serde_json_on_literals
channel_create_back guild channel kind name None position sync h k f p =
    (refl, rw (id_of_decimal guild h) refl, refl, rw (id_of_decimal channel k, channel_kind_back kind, p) refl)
channel_create_back guild channel kind name (Some parent) position sync h k f p =
    (refl, rw (id_of_decimal guild h) refl, refl, rw (id_of_decimal channel k, channel_kind_back kind, id_of_decimal parent f, p) refl)

channel_update_back : (guild channel : ℕ) (name : List ℕ) (parent : Option ℕ) (position : ℕ)
    → IdFits guild → IdFits channel → NullableIdFits parent → nat_lt position (2 ^ 31) ≡ true
    → Back guild (edit.Channel (ChannelUpdate (record { channel = channel; name = name; parent = parent; position = position })))
unfolding serde_json_on_literals
channel_update_back guild channel name None position h k f p =
    (refl, rw (id_of_decimal guild h) refl, refl, rw (id_of_decimal channel k, p) refl)
channel_update_back guild channel name (Some parent) position h k f p =
    (refl, rw (id_of_decimal guild h) refl, refl, rw (id_of_decimal channel k, id_of_decimal parent f, p) refl)

channel_back : (guild : ℕ) (e : ChannelEdit) → IdFits guild → ChannelEditFits e → channel_within e ≡ true → Back guild (edit.Channel e)
unfolding serde_json_on_literals
channel_back guild (ChannelCreate e) h k p = channel_create_back guild e.channel e.kind e.name e.parent e.position e.sync h k.0 k.1 p
channel_back guild (ChannelUpdate e) h k p = channel_update_back guild e.channel e.name e.parent e.position h k.0 k.1 p
channel_back guild (ChannelDelete channel) h k p = (refl, rw (id_of_decimal guild h) refl, refl, rw (id_of_decimal channel k) refl)
channel_back guild (OverwriteSet e) h k p = (
  refl,
  rw (id_of_decimal guild h) refl,
  refl,
  rw (
    id_of_decimal e.channel k.0,
    id_of_decimal e.id k.1,
    overwrite_kind_back e.kind,
    id_of_decimal e.allow (mask_as_id e.allow k.2),
    mask_below e.allow k.2,
    id_of_decimal e.deny (mask_as_id e.deny k.3),
    mask_below e.deny k.3,
  ) refl,
)
channel_back guild (OverwriteDelete e) h k p =
    (refl, rw (id_of_decimal guild h) refl, refl, rw (id_of_decimal e.channel k.0, id_of_decimal e.id k.1, overwrite_kind_back e.kind) refl)

pub edit_back : (guild : ℕ) (e : Edit) → IdFits guild → EditFits e → edit_within e ≡ true → Back guild e
edit_back guild (edit.Guild e) h k p = guild_back guild e h k
edit_back guild (edit.RoleMember e) h k p = role_member_back guild e h k p
edit_back guild (edit.Channel e) h k p = channel_back guild e h k p
edit_back guild (edit.Thread e) h k p = thread_back guild e h k
edit_back guild (edit.VoicePresence e) h k p = voice_presence_back guild e h k
edit_back guild (edit.Message e) h k p = message_back guild e h k p

-- ---- plain values

guild_plain : (guild : ℕ) (e : GuildEdit) → PlainEdit guild (edit.Guild e)
unfolding serde_json_on_literals
guild_plain guild (GuildOpen e) = (omega arith, refl)
guild_plain guild (GuildRename name) = (omega arith, refl)
guild_plain guild (GuildOwner user) = (omega arith, refl)
guild_plain guild GuildOutage = (omega arith, refl)
guild_plain guild GuildBack = (omega arith, refl)
guild_plain guild (GuildPrivate private) = (omega arith, refl)

nick_plain : (guild user : ℕ) (nick : Option (List ℕ)) → PlainEdit guild (edit.RoleMember (MemberNick (record { user = user; nick = nick })))
unfolding serde_json_on_literals
nick_plain guild user None = (omega arith, refl)
nick_plain guild user (Some nick) = (omega arith, refl)

timeout_plain : (guild user : ℕ) (until : Option ℕ) → PlainEdit guild (edit.RoleMember (MemberTimeout (record { user = user; until = until })))
unfolding serde_json_on_literals
timeout_plain guild user None = (omega arith, refl)
timeout_plain guild user (Some until) = (omega arith, refl)

role_member_plain : (guild : ℕ) (e : RoleMemberEdit) → PlainEdit guild (edit.RoleMember e)
unfolding serde_json_on_literals
role_member_plain guild (RoleCreate body) = (omega arith, refl)
role_member_plain guild (RoleUpdate body) = (omega arith, refl)
role_member_plain guild (RoleDelete role) = (omega arith, refl)
role_member_plain guild (MemberAdd e) = (omega arith, refl)
role_member_plain guild (MemberRemove user) = (omega arith, refl)
role_member_plain guild (MemberNick e) = nick_plain guild e.user e.nick
role_member_plain guild (MemberTimeout e) = timeout_plain guild e.user e.until
role_member_plain guild (MemberRoleAdd held) = (omega arith, refl)
role_member_plain guild (MemberRoleRemove held) = (omega arith, refl)

channel_create_plain : (guild channel : ℕ) (kind : ChannelKind) (name : List ℕ) (parent : Option ℕ) (position : ℕ) (sync : Bool)
    → PlainEdit guild (edit.Channel (ChannelCreate (record { channel = channel; kind = kind; name = name; parent = parent; position = position; sync = sync })))
unfolding serde_json_on_literals
channel_create_plain guild channel kind name None position sync = (omega arith, refl)
channel_create_plain guild channel kind name (Some parent) position sync = (omega arith, refl)

channel_update_plain : (guild channel : ℕ) (name : List ℕ) (parent : Option ℕ) (position : ℕ)
    → PlainEdit guild (edit.Channel (ChannelUpdate (record { channel = channel; name = name; parent = parent; position = position })))
unfolding serde_json_on_literals
channel_update_plain guild channel name None position = (omega arith, refl)
channel_update_plain guild channel name (Some parent) position = (omega arith, refl)

channel_plain : (guild : ℕ) (e : ChannelEdit) → PlainEdit guild (edit.Channel e)
unfolding serde_json_on_literals
channel_plain guild (ChannelCreate e) = channel_create_plain guild e.channel e.kind e.name e.parent e.position e.sync
channel_plain guild (ChannelUpdate e) = channel_update_plain guild e.channel e.name e.parent e.position
channel_plain guild (ChannelDelete channel) = (omega arith, refl)
channel_plain guild (OverwriteSet e) = (omega arith, refl)
channel_plain guild (OverwriteDelete e) = (omega arith, refl)

pub edit_plain : (guild : ℕ) (e : Edit) → PlainEdit guild e
edit_plain guild (edit.Guild e) = guild_plain guild e
edit_plain guild (edit.RoleMember e) = role_member_plain guild e
edit_plain guild (edit.Channel e) = channel_plain guild e
edit_plain guild (edit.Thread e) = thread_plain guild e
edit_plain guild (edit.VoicePresence e) = voice_presence_plain guild e
edit_plain guild (edit.Message e) = message_plain guild e
