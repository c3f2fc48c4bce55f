-- Gateway Events, Presence Update Event Fields.
use Rattle.std.specs.Prelude.{ℕ, codes, Result, Ok}
use Rattle.serde_json.specs.Data.{Data, string, object, array, no_items, member, no_members}
use Rattle.guild_model.specs.Statuses.{status_name, status_of_shown}
use Rattle.dispatch_types.specs.declared.presences.PresenceObject.{PresenceObject}
use Rattle.object_json.specs.Kinds.{digits}
use Rattle.json_view.specs.Fields.{and_then}
use Rattle.object_json.specs.declared.fault.ReadFault.{ReadFault}
use Rattle.object_json.specs.Reading.{id_at, status_at, field_at}
use Rattle.object_json.specs.Fits.{IsId}

-- a user of which only the id is told
abbrev pub partial_user_data : ℕ → Data
partial_user_data user = object (member (codes "id") (digits user) no_members)

abbrev pub presence_data : PresenceObject → Data
presence_data p =
    object (member (codes "activities") (array no_items)
    (member (codes "guild_id") (digits p.guild)
    (member (codes "status") (string (status_name (status_of_shown p.status)))
    (member (codes "user") (partial_user_data p.user)
    no_members))))

abbrev pub partial_user_at : Data → Result ℕ ReadFault
partial_user_at d = and_then (field_at (codes "user") d) (id_at (codes "id"))

abbrev pub presence_from : Data → Result PresenceObject ReadFault
presence_from d =
    and_then (id_at (codes "guild_id") d) (λ guild.
    and_then (status_at (codes "status") d) (λ status.
    and_then (partial_user_at d) (λ user.
    Ok (record { guild = guild; user = user; status = status }))))

abbrev pub PresenceFits : PresenceObject → Type 0
PresenceFits p = IsId p.guild × IsId p.user
