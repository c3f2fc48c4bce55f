-- Permissions, Role Object.
use Rattle.std.specs.Prelude.{codes, Result, Ok}
use Rattle.serde_json.specs.Data.{Data, string, object, member, no_members}
use Rattle.guild_model.specs.declared.role.Role.{Role}
use Rattle.object_json.specs.Kinds.{digits, count}
use Rattle.json_view.specs.Fields.{and_then}
use Rattle.object_json.specs.declared.fault.ReadFault.{ReadFault}
use Rattle.object_json.specs.Reading.{id_at, text_at, mask_at, small_at}
use Rattle.object_json.specs.Fits.{IsId, IsMask, IsSmall}

abbrev pub role_data : Role → Data
role_data r =
    object (member (codes "id") (digits r.id)
    (member (codes "name") (string r.name)
    (member (codes "permissions") (digits r.permissions)
    (member (codes "position") (count r.position)
    no_members))))

abbrev pub role_from : Data → Result Role ReadFault
role_from d =
    and_then (id_at (codes "id") d) (λ id.
    and_then (text_at (codes "name") d) (λ name.
    and_then (mask_at (codes "permissions") d) (λ permissions.
    and_then (small_at (codes "position") d) (λ position.
    Ok (record { id = id; name = name; permissions = permissions; position = position })))))

abbrev pub RoleFits : Role → Type 0
RoleFits r = IsId r.id × IsMask r.permissions × IsSmall r.position
