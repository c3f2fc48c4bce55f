-- Gateway Events, Guilds.
use Rattle.std.specs.Prelude.{codes, None, Result, Ok}
use Rattle.serde_json.specs.Data.{Data, boolean, string, object, Members, member, no_members}
use Rattle.dispatch_types.specs.declared.guilds.GuildCreate.{GuildCreate}
use Rattle.dispatch_types.specs.declared.guilds.GuildUpdate.{GuildUpdate}
use Rattle.dispatch_types.specs.declared.guilds.GuildDelete.{GuildDelete}
use Rattle.dispatch_types.specs.declared.roles.GuildRole.{GuildRole}
use Rattle.dispatch_types.specs.declared.roles.GuildRoleDelete.{GuildRoleDelete}
use Rattle.object_json.specs.Kinds.{digits, count, list, member_if, true_if}
use Rattle.object_json.specs.Role.{role_data, role_from, RoleFits}
use Rattle.object_json.specs.Channel.{channel_data, channel_from, ChannelFits}
use Rattle.object_json.specs.Member.{member_data, member_from, MemberFits}
use Rattle.object_json.specs.Thread.{joined_thread_data, joined_thread_from, JoinedThreadFits}
use Rattle.object_json.specs.Voice.{voice_data, voice_from, VoiceFits}
use Rattle.object_json.specs.Presence.{presence_data, presence_from, PresenceFits}
use Rattle.json_view.specs.Fields.{and_then}
use Rattle.object_json.specs.declared.fault.ReadFault.{ReadFault}
use Rattle.object_json.specs.Reading.{id_at, text_at, flag_at, number_at, is_there, list_at, value_at}
use Rattle.object_json.specs.Fits.{Each, IsId, IsWhole}

-- what follows the members
abbrev pub guild_create_rest : GuildCreate → Members
guild_create_rest g =
    member (codes "name") (string g.name)
    (member (codes "owner_id") (digits g.owner)
    (member (codes "presences") (list presence_data g.presences)
    (member (codes "roles") (list role_data g.roles)
    (member (codes "threads") (list joined_thread_data g.threads)
    (member (codes "voice_states") (list (voice_data None) g.voices)
    no_members)))))

abbrev pub guild_create_data : GuildCreate → Data
guild_create_data g =
    object (member (codes "channels") (list channel_data g.channels)
    (member (codes "id") (digits g.id)
    (member (codes "large") (boolean g.large)
    (member (codes "member_count") (count g.member_count)
    (member (codes "members") (list (member_data None) g.members)
    (guild_create_rest g))))))

abbrev pub guild_update_data : GuildUpdate → Data
guild_update_data u =
    object (member (codes "id") (digits u.id)
    (member (codes "name") (string u.name)
    (member (codes "owner_id") (digits u.owner)
    no_members)))

abbrev pub guild_delete_data : GuildDelete → Data
guild_delete_data d =
    object (member (codes "id") (digits d.id)
    (member_if (codes "unavailable") (true_if d.unavailable)
    no_members))

-- Guild Role Create and Guild Role Update
abbrev pub guild_role_data : GuildRole → Data
guild_role_data r =
    object (member (codes "guild_id") (digits r.guild)
    (member (codes "role") (role_data r.role)
    no_members))

abbrev pub guild_role_delete_data : GuildRoleDelete → Data
guild_role_delete_data d =
    object (member (codes "guild_id") (digits d.guild)
    (member (codes "role_id") (digits d.role)
    no_members))

-- ---- reading

abbrev pub guild_create_from : Data → Result GuildCreate ReadFault
guild_create_from d =
    and_then (list_at channel_from (codes "channels") d) (λ channels.
    and_then (id_at (codes "id") d) (λ id.
    and_then (flag_at (codes "large") d) (λ large.
    and_then (number_at (codes "member_count") d) (λ users.
    and_then (list_at member_from (codes "members") d) (λ members.
    and_then (text_at (codes "name") d) (λ name.
    and_then (id_at (codes "owner_id") d) (λ owner.
    and_then (list_at presence_from (codes "presences") d) (λ presences.
    and_then (list_at role_from (codes "roles") d) (λ roles.
    and_then (list_at joined_thread_from (codes "threads") d) (λ threads.
    and_then (list_at voice_from (codes "voice_states") d) (λ voices.
    Ok (record {
      id = id;
      name = name;
      owner = owner;
      roles = roles;
      channels = channels;
      members = members;
      member_count = users;
      large = large;
      threads = threads;
      voices = voices;
      presences = presences;
    }))))))))))))

abbrev pub GuildRestFits : GuildCreate → Type 0
GuildRestFits g =
    IsId g.owner × Each PresenceFits g.presences × Each RoleFits g.roles × Each JoinedThreadFits g.threads
    × Each VoiceFits g.voices

abbrev pub GuildCreateFits : GuildCreate → Type 0
GuildCreateFits g =
    Each ChannelFits g.channels × IsId g.id × IsWhole g.member_count × Each MemberFits g.members
    × GuildRestFits g

abbrev pub guild_update_from : Data → Result GuildUpdate ReadFault
guild_update_from d =
    and_then (id_at (codes "id") d) (λ id.
    and_then (text_at (codes "name") d) (λ name.
    and_then (id_at (codes "owner_id") d) (λ owner.
    Ok (record { id = id; name = name; owner = owner }))))

abbrev pub GuildUpdateFits : GuildUpdate → Type 0
GuildUpdateFits u = IsId u.id × IsId u.owner

abbrev pub guild_delete_from : Data → Result GuildDelete ReadFault
guild_delete_from d =
    and_then (id_at (codes "id") d) (λ id.
    Ok (record { id = id; unavailable = is_there (codes "unavailable") d }))

abbrev pub GuildDeleteFits : GuildDelete → Type 0
GuildDeleteFits d = IsId d.id

abbrev pub guild_role_from : Data → Result GuildRole ReadFault
guild_role_from d =
    and_then (id_at (codes "guild_id") d) (λ guild.
    and_then (value_at role_from (codes "role") d) (λ role.
    Ok (record { guild = guild; role = role })))

abbrev pub GuildRoleFits : GuildRole → Type 0
GuildRoleFits r = IsId r.guild × RoleFits r.role

abbrev pub guild_role_delete_from : Data → Result GuildRoleDelete ReadFault
guild_role_delete_from d =
    and_then (id_at (codes "guild_id") d) (λ guild.
    and_then (id_at (codes "role_id") d) (λ role.
    Ok (record { guild = guild; role = role })))

abbrev pub GuildRoleDeleteFits : GuildRoleDelete → Type 0
GuildRoleDeleteFits d = IsId d.guild × IsId d.role
