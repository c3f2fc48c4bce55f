-- A member is given a role, or loses it (Guild Resource, Add and Remove Guild Member Role).
use Rattle.std.specs.Prelude.{ℕ, List, [], ◌∷◌, Bool, false, not, Option}
use Rattle.std.specs.Option.{option_map_or}
use Rattle.collections.specs.ById.{find_id, put_id, has_id}
use Rattle.guild_model.specs.declared.member.Member.{Member}
use Rattle.guild_model.specs.declared.verdict.Verdict.{Verdict}
use Rattle.guild_model.specs.declared.verdict.Verdict.TheVariants.{IdTaken, UnknownRole}
use Rattle.guild_model.specs.Record.{Record, own_id, member_id}
use Rattle.guild_model.specs.Tests.{refused_if, first_of, unknown_role, unknown_member}
use Rattle.guild_model.specs.Changes.{without_role}
use Rattle.role_member_edit.specs.declared.held_role.HeldRole.{HeldRole}
use Rattle.role_member_edit.specs.Roles.{everyone_role}
use Rattle.role_member_edit.specs.Members.{with_member_changed}

-- whether a member holds a role; false for a user who is not a member
abbrev pub holds : Record → ℕ → ℕ → Bool
holds g user role =
    option_map_or (λ (m : Member). has_id own_id role m.roles) (find_id member_id user g.members) false

-- member_role_add
abbrev pub member_role_add_verdict : Record → HeldRole → Option Verdict
member_role_add_verdict g edit = first_of (
    everyone_role g edit.role
    ∷ unknown_member g edit.user
    ∷ unknown_role g edit.role
    ∷ refused_if (holds g edit.user edit.role) IdTaken
    ∷ [])

abbrev pub with_role : ℕ → Member → Member
with_role role m = record m { roles = put_id own_id role m.roles }

abbrev pub member_role_added : Record → HeldRole → Record
member_role_added g edit = with_member_changed g edit.user (with_role edit.role)

-- member_role_remove: an unknown role is not held
abbrev pub member_role_remove_verdict : Record → HeldRole → Option Verdict
member_role_remove_verdict g edit = first_of (
    everyone_role g edit.role
    ∷ unknown_member g edit.user
    ∷ refused_if (not (holds g edit.user edit.role)) UnknownRole
    ∷ [])

abbrev pub member_role_removed : Record → HeldRole → Record
member_role_removed g edit = with_member_changed g edit.user (without_role edit.role)

-- the roles that a member holds with one more, and a member that holds these
abbrev pub held_with : Record → ℕ → ℕ → List ℕ
held_with g user role =
    option_map_or (λ (m : Member). put_id own_id role m.roles) (find_id member_id user g.members) (role ∷ [])

abbrev pub with_roles : List ℕ → Member → Member
with_roles roles m = record m { roles = roles }
