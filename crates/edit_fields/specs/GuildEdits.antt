-- The fields of the edits of a guild itself.
use Rattle.std.specs.Prelude.{ℕ, List, [], ◌∷◌, Result, Ok, codes}
use Rattle.serde_json.specs.Data.{Data, boolean, string}
use Rattle.json_view.specs.Fields.{and_then}
use Rattle.edit_apply.specs.declared.guild.GuildEdit.{GuildEdit}
use Rattle.edit_apply.specs.declared.guild.GuildEdit.TheVariants as edit
use Rattle.edit_apply.specs.declared.guild.GuildOpen.{GuildOpen}
use Rattle.edit_fields.specs.declared.fault.LineFault.{LineFault}
use Rattle.edit_fields.specs.declared.names.GuildEditName.{GuildEditName}
use Rattle.edit_fields.specs.declared.names.GuildEditName.TheVariants as named
use Rattle.edit_fields.specs.Fields.{text_at, id_at, flag_at, mask_at, moment_at}
use Rattle.edit_fields.specs.Members.{count, id_data}

-- ---- reading

abbrev pub guild_open_from : Data → Result GuildOpen LineFault
guild_open_from d =
    and_then (text_at (codes "name") d) (λ name.
    and_then (id_at (codes "owner") d) (λ owner.
    and_then (text_at (codes "owner_name") d) (λ owner_name.
    and_then (mask_at (codes "perms") d) (λ perms.
    and_then (moment_at (codes "at") d) (λ at.
    Ok (record { name = name; owner = owner; owner_name = owner_name; perms = perms; at = at }))))))

abbrev pub guild_rename_from : Data → Result GuildEdit LineFault
guild_rename_from d = and_then (text_at (codes "name") d) (λ name. Ok (edit.GuildRename name))

abbrev pub guild_edit_from : GuildEditName → Data → Result GuildEdit LineFault
guild_edit_from named.GuildOpen d = and_then (guild_open_from d) (λ e. Ok (edit.GuildOpen e))
guild_edit_from named.GuildRename d = guild_rename_from d
guild_edit_from named.GuildOwner d =
    and_then (id_at (codes "user") d) (λ user. Ok (edit.GuildOwner user))
guild_edit_from named.GuildOutage d = Ok edit.GuildOutage
guild_edit_from named.GuildBack d = Ok edit.GuildBack
guild_edit_from named.GuildPrivate d =
    and_then (flag_at (codes "private") d) (λ private. Ok (edit.GuildPrivate private))

-- ---- writing

abbrev pub guild_edit_name : GuildEdit → GuildEditName
guild_edit_name (edit.GuildOpen e) = named.GuildOpen
guild_edit_name (edit.GuildRename name) = named.GuildRename
guild_edit_name (edit.GuildOwner user) = named.GuildOwner
guild_edit_name edit.GuildOutage = named.GuildOutage
guild_edit_name edit.GuildBack = named.GuildBack
guild_edit_name (edit.GuildPrivate private) = named.GuildPrivate

abbrev pub guild_open_fields : GuildOpen → List (List ℕ × Data)
guild_open_fields e =
    (codes "name", string e.name) ∷ (codes "owner", id_data e.owner)
    ∷ (codes "owner_name", string e.owner_name) ∷ (codes "perms", id_data e.perms)
    ∷ (codes "at", count e.at) ∷ []

abbrev pub guild_edit_fields : GuildEdit → List (List ℕ × Data)
guild_edit_fields (edit.GuildOpen e) = guild_open_fields e
guild_edit_fields (edit.GuildRename name) = (codes "name", string name) ∷ []
guild_edit_fields (edit.GuildOwner user) = (codes "user", id_data user) ∷ []
guild_edit_fields edit.GuildOutage = []
guild_edit_fields edit.GuildBack = []
guild_edit_fields (edit.GuildPrivate private) = (codes "private", boolean private) ∷ []
