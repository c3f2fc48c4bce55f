-- User Resource, User Object.
use Rattle.std.specs.Prelude.{codes, Result, Ok}
use Rattle.serde_json.specs.Data.{Data, boolean, string, object, member, no_members}
use Rattle.guild_model.specs.declared.user.User.{User}
use Rattle.object_json.specs.Kinds.{digits}
use Rattle.json_view.specs.Fields.{and_then}
use Rattle.object_json.specs.declared.fault.ReadFault.{ReadFault}
use Rattle.object_json.specs.Reading.{flag_at, id_at, text_at}
use Rattle.object_json.specs.Fits.{IsId}

abbrev pub user_data : User → Data
user_data u =
    object (member (codes "bot") (boolean u.bot)
    (member (codes "id") (digits u.id)
    (member (codes "username") (string u.name)
    no_members)))

abbrev pub user_from : Data → Result User ReadFault
user_from d =
    and_then (flag_at (codes "bot") d) (λ bot.
    and_then (id_at (codes "id") d) (λ id.
    and_then (text_at (codes "username") d) (λ name.
    Ok (record { id = id; name = name; bot = bot }))))

abbrev pub UserFits : User → Type 0
UserFits u = IsId u.id
