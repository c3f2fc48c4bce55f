-- The fields of the edits of roles and members.
use Rattle.std.specs.Prelude.{ℕ, List, [], ◌∷◌, Result, Ok, codes}
use Rattle.serde_json.specs.Data.{Data, boolean, string}
use Rattle.json_view.specs.Fields.{and_then}
use Rattle.role_member_edit.specs.declared.RoleMemberEdit.{RoleMemberEdit}
use Rattle.role_member_edit.specs.declared.RoleMemberEdit.TheVariants as edit
use Rattle.role_member_edit.specs.declared.role_body.RoleBody.{RoleBody}
use Rattle.role_member_edit.specs.declared.held_role.HeldRole.{HeldRole}
use Rattle.role_member_edit.specs.declared.member_add.MemberAdd.{MemberAdd}
use Rattle.role_member_edit.specs.declared.member_nick.MemberNick.{MemberNick}
use Rattle.role_member_edit.specs.declared.member_timeout.MemberTimeout.{MemberTimeout}
use Rattle.edit_fields.specs.declared.fault.LineFault.{LineFault}
use Rattle.edit_fields.specs.declared.names.RoleMemberEditName.{RoleMemberEditName}
use Rattle.edit_fields.specs.declared.names.RoleMemberEditName.TheVariants as named
use Rattle.edit_fields.specs.Fields.{text_at, id_at, flag_at, mask_at, moment_at, position_at, nullable_text_at, nullable_moment_at}
use Rattle.edit_fields.specs.Members.{count, id_data, nullable}

-- ---- reading

abbrev pub role_from : Data → Result RoleBody LineFault
role_from d =
    and_then (id_at (codes "role") d) (λ role.
    and_then (text_at (codes "name") d) (λ name.
    and_then (mask_at (codes "perms") d) (λ perms.
    and_then (position_at (codes "position") d) (λ position.
    Ok (record { role = role; name = name; perms = perms; position = position })))))

abbrev pub member_add_from : Data → Result MemberAdd LineFault
member_add_from d =
    and_then (id_at (codes "user") d) (λ user.
    and_then (text_at (codes "name") d) (λ name.
    and_then (flag_at (codes "bot") d) (λ bot.
    and_then (moment_at (codes "at") d) (λ at.
    Ok (record { user = user; name = name; bot = bot; at = at })))))

abbrev pub member_nick_from : Data → Result MemberNick LineFault
member_nick_from d =
    and_then (id_at (codes "user") d) (λ user.
    and_then (nullable_text_at (codes "nick") d) (λ nick.
    Ok (record { user = user; nick = nick })))

abbrev pub member_timeout_from : Data → Result MemberTimeout LineFault
member_timeout_from d =
    and_then (id_at (codes "user") d) (λ user.
    and_then (nullable_moment_at (codes "until") d) (λ until.
    Ok (record { user = user; until = until })))

abbrev pub held_role_from : Data → Result HeldRole LineFault
held_role_from d =
    and_then (id_at (codes "user") d) (λ user.
    and_then (id_at (codes "role") d) (λ role.
    Ok (record { user = user; role = role })))

abbrev pub role_member_edit_from : RoleMemberEditName → Data → Result RoleMemberEdit LineFault
role_member_edit_from named.RoleCreate d = and_then (role_from d) (λ body. Ok (edit.RoleCreate body))
role_member_edit_from named.RoleUpdate d = and_then (role_from d) (λ body. Ok (edit.RoleUpdate body))
role_member_edit_from named.RoleDelete d =
    and_then (id_at (codes "role") d) (λ role. Ok (edit.RoleDelete role))
role_member_edit_from named.MemberAdd d = and_then (member_add_from d) (λ e. Ok (edit.MemberAdd e))
role_member_edit_from named.MemberRemove d =
    and_then (id_at (codes "user") d) (λ user. Ok (edit.MemberRemove user))
role_member_edit_from named.MemberNick d =
    and_then (member_nick_from d) (λ e. Ok (edit.MemberNick e))
role_member_edit_from named.MemberTimeout d =
    and_then (member_timeout_from d) (λ e. Ok (edit.MemberTimeout e))
role_member_edit_from named.MemberRoleAdd d =
    and_then (held_role_from d) (λ held. Ok (edit.MemberRoleAdd held))
role_member_edit_from named.MemberRoleRemove d =
    and_then (held_role_from d) (λ held. Ok (edit.MemberRoleRemove held))

-- ---- writing

abbrev pub role_member_edit_name : RoleMemberEdit → RoleMemberEditName
role_member_edit_name (edit.RoleCreate body) = named.RoleCreate
role_member_edit_name (edit.RoleUpdate body) = named.RoleUpdate
role_member_edit_name (edit.RoleDelete role) = named.RoleDelete
role_member_edit_name (edit.MemberAdd e) = named.MemberAdd
role_member_edit_name (edit.MemberRemove user) = named.MemberRemove
role_member_edit_name (edit.MemberNick e) = named.MemberNick
role_member_edit_name (edit.MemberTimeout e) = named.MemberTimeout
role_member_edit_name (edit.MemberRoleAdd held) = named.MemberRoleAdd
role_member_edit_name (edit.MemberRoleRemove held) = named.MemberRoleRemove

abbrev pub role_fields : RoleBody → List (List ℕ × Data)
role_fields body =
    (codes "role", id_data body.role) ∷ (codes "name", string body.name)
    ∷ (codes "perms", id_data body.perms) ∷ (codes "position", count body.position) ∷ []

abbrev pub member_add_fields : MemberAdd → List (List ℕ × Data)
member_add_fields e =
    (codes "user", id_data e.user) ∷ (codes "name", string e.name)
    ∷ (codes "bot", boolean e.bot) ∷ (codes "at", count e.at) ∷ []

abbrev pub member_nick_fields : MemberNick → List (List ℕ × Data)
member_nick_fields e = (codes "user", id_data e.user) ∷ (codes "nick", nullable string e.nick) ∷ []

abbrev pub member_timeout_fields : MemberTimeout → List (List ℕ × Data)
member_timeout_fields e =
    (codes "user", id_data e.user) ∷ (codes "until", nullable count e.until) ∷ []

abbrev pub held_role_fields : HeldRole → List (List ℕ × Data)
held_role_fields held = (codes "user", id_data held.user) ∷ (codes "role", id_data held.role) ∷ []

abbrev pub role_member_edit_fields : RoleMemberEdit → List (List ℕ × Data)
role_member_edit_fields (edit.RoleCreate body) = role_fields body
role_member_edit_fields (edit.RoleUpdate body) = role_fields body
role_member_edit_fields (edit.RoleDelete role) = (codes "role", id_data role) ∷ []
role_member_edit_fields (edit.MemberAdd e) = member_add_fields e
role_member_edit_fields (edit.MemberRemove user) = (codes "user", id_data user) ∷ []
role_member_edit_fields (edit.MemberNick e) = member_nick_fields e
role_member_edit_fields (edit.MemberTimeout e) = member_timeout_fields e
role_member_edit_fields (edit.MemberRoleAdd held) = held_role_fields held
role_member_edit_fields (edit.MemberRoleRemove held) = held_role_fields held
