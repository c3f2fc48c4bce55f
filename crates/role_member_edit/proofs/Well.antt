-- An edit of roles and members leaves a record well.
use Rattle.std.proofs.Common.{◌≡◌, true, None}
use Rattle.guild_model.specs.Record.{Record}
use Rattle.guild_model.specs.Ascending.{IsWell}
use Rattle.guild_model.proofs.Kept.{role_set}
use Rattle.role_member_edit.specs.declared.RoleMemberEdit.{RoleMemberEdit}
use Rattle.role_member_edit.specs.declared.RoleMemberEdit.TheVariants.{RoleCreate, RoleUpdate, RoleDelete, MemberAdd, MemberRemove, MemberNick, MemberTimeout, MemberRoleAdd, MemberRoleRemove}
use Rattle.role_member_edit.specs.RoleMember.{role_member_verdict, role_member_applied}
use Rattle.role_member_edit.proofs.Kept.{role_gone, added, member_gone, nicked, timed_out, given, taken}
use Rattle.role_member_edit.proofs.Ascends

pub well : (g : Record) (edit : RoleMemberEdit) → g.opened ≡ true → IsWell g → role_member_verdict g edit ≡ None → IsWell (role_member_applied g edit)
well g (RoleCreate edit) o w e = record { ascending = Ascends.role_set g w.ascending _; consistent = role_set g o w.consistent _ }
well g (RoleUpdate edit) o w e = record { ascending = Ascends.role_set g w.ascending _; consistent = role_set g o w.consistent _ }
well g (RoleDelete role) o w e = record { ascending = Ascends.role_gone g w.ascending role; consistent = role_gone g o w.consistent role e }
well g (MemberAdd edit) o w e = record { ascending = Ascends.added g w.ascending edit; consistent = added g o w.consistent edit }
well g (MemberRemove user) o w e = record { ascending = Ascends.member_gone g w.ascending user; consistent = member_gone g o w.consistent user e }
well g (MemberNick edit) o w e = record { ascending = Ascends.nicked g w.ascending edit.user edit.nick; consistent = nicked g o w.consistent edit.user edit.nick }
well g (MemberTimeout edit) o w e = record { ascending = Ascends.timed_out g w.ascending edit.user edit.until; consistent = timed_out g o w.consistent edit.user edit.until }
well g (MemberRoleAdd edit) o w e = record { ascending = Ascends.given g w.ascending edit.user edit.role; consistent = given g o w.consistent edit e }
well g (MemberRoleRemove edit) o w e = record { ascending = Ascends.taken g w.ascending edit.user edit.role; consistent = taken g o w.consistent edit.user edit.role }
