-- The edits of roles and members: what is refused, and what becomes of the record.
use Rattle.std.specs.Prelude.{Option}
use Rattle.guild_model.specs.declared.verdict.Verdict.{Verdict}
use Rattle.guild_model.specs.Record.{Record}
use Rattle.role_member_edit.specs.declared.RoleMemberEdit.{RoleMemberEdit}
use Rattle.role_member_edit.specs.declared.RoleMemberEdit.TheVariants.{RoleCreate, RoleUpdate, RoleDelete, MemberAdd, MemberRemove, MemberNick, MemberTimeout, MemberRoleAdd, MemberRoleRemove}
use Rattle.role_member_edit.specs.Roles.{role_create_verdict, role_created, role_update_verdict, role_updated, role_delete_verdict, role_deleted}
use Rattle.role_member_edit.specs.Members.{member_add_verdict, member_added, member_remove_verdict, member_removed, member_nick_verdict, member_nicked, member_timeout_verdict, member_timed_out}
use Rattle.role_member_edit.specs.HeldRoles.{member_role_add_verdict, member_role_added, member_role_remove_verdict, member_role_removed}

-- why an edit of an open guild is refused, if it is
abbrev pub role_member_verdict : Record → RoleMemberEdit → Option Verdict
role_member_verdict g (RoleCreate edit) = role_create_verdict g edit
role_member_verdict g (RoleUpdate edit) = role_update_verdict g edit
role_member_verdict g (RoleDelete role) = role_delete_verdict g role
role_member_verdict g (MemberAdd edit) = member_add_verdict g edit
role_member_verdict g (MemberRemove user) = member_remove_verdict g user
role_member_verdict g (MemberNick edit) = member_nick_verdict g edit
role_member_verdict g (MemberTimeout edit) = member_timeout_verdict g edit
role_member_verdict g (MemberRoleAdd edit) = member_role_add_verdict g edit
role_member_verdict g (MemberRoleRemove edit) = member_role_remove_verdict g edit

-- the record after an edit that is not refused
abbrev pub role_member_applied : Record → RoleMemberEdit → Record
role_member_applied g (RoleCreate edit) = role_created g edit
role_member_applied g (RoleUpdate edit) = role_updated g edit
role_member_applied g (RoleDelete role) = role_deleted g role
role_member_applied g (MemberAdd edit) = member_added g edit
role_member_applied g (MemberRemove user) = member_removed g user
role_member_applied g (MemberNick edit) = member_nicked g edit
role_member_applied g (MemberTimeout edit) = member_timed_out g edit
role_member_applied g (MemberRoleAdd edit) = member_role_added g edit
role_member_applied g (MemberRoleRemove edit) = member_role_removed g edit
