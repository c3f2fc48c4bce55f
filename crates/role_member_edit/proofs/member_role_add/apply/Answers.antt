use Rattle.std.proofs.Common.{◌≡◌, true, ap, sym, subst, ◌∙◌}
use Rattle.guild_model.specs.Record.{Record}
use Rattle.guild_model.specs.Consistent.{IsConsistent}
use Rattle.role_member_edit.specs.declared.held_role.HeldRole.{HeldRole}
use Rattle.role_member_edit.specs.HeldRoles.{member_role_added}
use Rattle.role_member_edit.proofs.Kept.{given, given_as}
use Rattle.role_member_edit.proofs.member_role_add.apply.Goals as goal

pub invariant_of-guild : goal.invariant_of-guild
invariant_of-guild c =
    let is_open : c.guild.inside.opened ≡ true = cc in
    let accepted = rw (← c.guild.view_is) at c.requires.accepted in
    let roles = rw (← c.guild.view_is, ap (λ (edit : HeldRole). edit.role) c.edit.view_is) at c.in_ok-roles.ensures in
    rw (c.change.ensures, ap (λ (edit : HeldRole). edit.user) c.edit.view_is)
    (subst IsConsistent (sym (given_as _ c.args.edit _ roles)) (given _ is_open c.guild.invariant c.args.edit accepted))

pub returns-clause-ok : goal.returns-clause-ok
returns-clause-ok c =
    let roles = rw (← c.guild.view_is, ap (λ (edit : HeldRole). edit.role) c.edit.view_is) at c.in_ok-roles.ensures in
    rw (c.change.ensures, ap (λ (edit : HeldRole). edit.user) c.edit.view_is)
    (given_as _ c.args.edit _ roles ∙ ap (λ (g : Record). member_role_added g c.args.edit) c.guild.view_is)
