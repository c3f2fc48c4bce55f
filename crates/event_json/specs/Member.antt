-- Gateway Events, Guild Members.
use Rattle.std.specs.Prelude.{codes, Some, None, option_map, Result, Ok, IfSome}
use Rattle.serde_json.specs.Data.{Data, string, object, member, no_members}
use Rattle.dispatch_types.specs.declared.members.GuildMember.{GuildMember}
use Rattle.dispatch_types.specs.declared.members.GuildMemberRemove.{GuildMemberRemove}
use Rattle.dispatch_types.specs.declared.members.MembersChunk.{MembersChunk}
use Rattle.object_json.specs.Kinds.{digits, count, list, list_if, member_if}
use Rattle.object_json.specs.User.{user_data, user_from, UserFits}
use Rattle.object_json.specs.Member.{member_data, member_from, MemberFits}
use Rattle.object_json.specs.Presence.{presence_data, presence_from, PresenceFits}
use Rattle.json_view.specs.Fields.{and_then}
use Rattle.object_json.specs.declared.fault.ReadFault.{ReadFault}
use Rattle.object_json.specs.Reading.{id_at, number_at, text_from, id_from, list_at, list_if_at, list_from, optional_at, value_at}
use Rattle.object_json.specs.Fits.{Each, IsId, IsWhole}

-- Guild Member Add and Guild Member Update: the member, and with it its guild
abbrev pub guild_member_data : GuildMember → Data
guild_member_data m = member_data (Some m.guild) m.member

abbrev pub guild_member_remove_data : GuildMemberRemove → Data
guild_member_remove_data r =
    object (member (codes "guild_id") (digits r.guild)
    (member (codes "user") (user_data r.user)
    no_members))

-- Guild Members Chunk
abbrev pub members_chunk_data : MembersChunk → Data
members_chunk_data c =
    object (member (codes "chunk_count") (count c.count)
    (member (codes "chunk_index") (count c.index)
    (member (codes "guild_id") (digits c.guild)
    (member (codes "members") (list (member_data None) c.members)
    (member_if (codes "nonce") (option_map string c.nonce)
    (member_if (codes "not_found") (list_if digits c.not_found)
    (member_if (codes "presences") (option_map (list presence_data) c.presences)
    no_members)))))))

-- ---- reading

abbrev pub guild_member_from : Data → Result GuildMember ReadFault
guild_member_from d =
    and_then (id_at (codes "guild_id") d) (λ guild.
    and_then (member_from d) (λ member.
    Ok (record { guild = guild; member = member })))

abbrev pub GuildMemberFits : GuildMember → Type 0
GuildMemberFits m = IsId m.guild × MemberFits m.member

abbrev pub guild_member_remove_from : Data → Result GuildMemberRemove ReadFault
guild_member_remove_from d =
    and_then (id_at (codes "guild_id") d) (λ guild.
    and_then (value_at user_from (codes "user") d) (λ user.
    Ok (record { guild = guild; user = user })))

abbrev pub GuildMemberRemoveFits : GuildMemberRemove → Type 0
GuildMemberRemoveFits r = IsId r.guild × UserFits r.user

abbrev pub members_chunk_from : Data → Result MembersChunk ReadFault
members_chunk_from d =
    and_then (number_at (codes "chunk_count") d) (λ chunks.
    and_then (number_at (codes "chunk_index") d) (λ index.
    and_then (id_at (codes "guild_id") d) (λ guild.
    and_then (list_at member_from (codes "members") d) (λ members.
    and_then (optional_at text_from (codes "nonce") d) (λ nonce.
    and_then (list_if_at id_from (codes "not_found") d) (λ others.
    and_then (optional_at (list_from presence_from) (codes "presences") d) (λ presences.
    Ok (record {
      guild = guild;
      members = members;
      index = index;
      count = chunks;
      nonce = nonce;
      not_found = others;
      presences = presences;
    }))))))))

abbrev pub ChunkFits : MembersChunk → Type 0
ChunkFits c =
    IsWhole c.count × IsWhole c.index × IsId c.guild × Each MemberFits c.members × Each IsId c.not_found
    × IfSome c.presences (Each PresenceFits)
