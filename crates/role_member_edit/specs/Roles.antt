-- Roles that are created, replaced and deleted (Guild Resource, Create, Modify and Delete Guild
-- Role).
use Rattle.std.specs.Prelude.{ℕ, ◌==◌, length, [], ◌∷◌, map, Option}
use Rattle.collections.specs.ById.{put_id, without_id, has_id}
use Rattle.guild_model.specs.declared.role.Role.{Role}
use Rattle.guild_model.specs.declared.verdict.Verdict.{Verdict}
use Rattle.guild_model.specs.declared.verdict.Verdict.TheVariants.{IdTaken, EveryoneRole}
use Rattle.guild_model.specs.Record.{Record, role_id}
use Rattle.guild_model.specs.Tests.{refused_if, first_of, too_long, too_many, unknown_role}
use Rattle.guild_model.specs.Changes.{without_role, without_role_overwrite}
use Rattle.role_member_edit.specs.declared.role_body.RoleBody.{RoleBody}

abbrev pub role_taken : Record → ℕ → Option Verdict
role_taken g role = refused_if (has_id role_id role g.roles) IdTaken

-- @everyone has the guild's id
abbrev pub everyone_role : Record → ℕ → Option Verdict
everyone_role g role = refused_if (role == g.id) EveryoneRole

abbrev pub with_role_set : Record → Role → Record
with_role_set g role = record g { roles = put_id role_id role g.roles }

-- the role that an edit states
abbrev pub role_of : RoleBody → Role
role_of body = record {
  id = body.role;
  name = body.name;
  permissions = body.perms;
  position = body.position;
}

-- role_create
abbrev pub role_create_verdict : Record → RoleBody → Option Verdict
role_create_verdict g edit = first_of (
    role_taken g edit.role
    ∷ too_many 250 (length g.roles)
    ∷ too_long 100 edit.name
    ∷ [])

abbrev pub role_created : Record → RoleBody → Record
role_created g edit = with_role_set g (role_of edit)

-- role_update
abbrev pub role_update_verdict : Record → RoleBody → Option Verdict
role_update_verdict g edit = first_of (unknown_role g edit.role ∷ too_long 100 edit.name ∷ [])

abbrev pub role_updated : Record → RoleBody → Record
role_updated g edit = with_role_set g (role_of edit)

-- role_delete: the members that hold the role lose it, and its overwrites are deleted
abbrev pub role_delete_verdict : Record → ℕ → Option Verdict
role_delete_verdict g role = first_of (everyone_role g role ∷ unknown_role g role ∷ [])

abbrev pub role_deleted : Record → ℕ → Record
role_deleted g role = record g {
  roles = without_id role_id role g.roles;
  members = map (without_role role) g.members;
  channels = map (without_role_overwrite role) g.channels;
}
