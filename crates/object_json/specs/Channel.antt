-- Channels Resource: Channel Object, Overwrite Object.
use Rattle.std.specs.Prelude.{codes, Result, Ok, IfSome}
use Rattle.serde_json.specs.Data.{Data, string, object, member, no_members}
use Rattle.guild_model.specs.Numbers.{channel_kind_number, overwrite_kind_number}
use Rattle.dispatch_types.specs.declared.channels.OverwriteObject.{OverwriteObject}
use Rattle.dispatch_types.specs.declared.channels.ChannelObject.{ChannelObject}
use Rattle.object_json.specs.Kinds.{digits, count, list, or_null}
use Rattle.json_view.specs.Fields.{and_then}
use Rattle.object_json.specs.declared.fault.ReadFault.{ReadFault}
use Rattle.object_json.specs.Reading.{id_at, id_from, text_at, mask_at, small_at, channel_kind_at, overwrite_kind_at, nullable_at, list_at}
use Rattle.object_json.specs.Fits.{IsId, IsMask, IsSmall, Each}

abbrev pub overwrite_data : OverwriteObject → Data
overwrite_data o =
    object (member (codes "allow") (digits o.allow)
    (member (codes "deny") (digits o.deny)
    (member (codes "id") (digits o.id)
    (member (codes "type") (count (overwrite_kind_number o.kind))
    no_members))))

abbrev pub channel_data : ChannelObject → Data
channel_data c =
    object (member (codes "guild_id") (digits c.guild)
    (member (codes "id") (digits c.id)
    (member (codes "name") (string c.name)
    (member (codes "parent_id") (or_null digits c.parent)
    (member (codes "permission_overwrites") (list overwrite_data c.overwrites)
    (member (codes "position") (count c.position)
    (member (codes "type") (count (channel_kind_number c.kind))
    no_members)))))))

abbrev pub overwrite_from : Data → Result OverwriteObject ReadFault
overwrite_from d =
    and_then (mask_at (codes "allow") d) (λ allow.
    and_then (mask_at (codes "deny") d) (λ deny.
    and_then (id_at (codes "id") d) (λ id.
    and_then (overwrite_kind_at (codes "type") d) (λ kind.
    Ok (record { kind = kind; id = id; allow = allow; deny = deny })))))

abbrev pub OverwriteFits : OverwriteObject → Type 0
OverwriteFits o = IsMask o.allow × IsMask o.deny × IsId o.id

abbrev pub channel_from : Data → Result ChannelObject ReadFault
channel_from d =
    and_then (id_at (codes "guild_id") d) (λ guild.
    and_then (id_at (codes "id") d) (λ id.
    and_then (text_at (codes "name") d) (λ name.
    and_then (nullable_at id_from (codes "parent_id") d) (λ parent.
    and_then (list_at overwrite_from (codes "permission_overwrites") d) (λ overwrites.
    and_then (small_at (codes "position") d) (λ position.
    and_then (channel_kind_at (codes "type") d) (λ kind.
    Ok (record { guild = guild; id = id; kind = kind; name = name; parent = parent; position = position; overwrites = overwrites }))))))))

abbrev pub ChannelFits : ChannelObject → Type 0
ChannelFits c = IsId c.guild × IsId c.id × IfSome c.parent IsId × Each OverwriteFits c.overwrites × IsSmall c.position
