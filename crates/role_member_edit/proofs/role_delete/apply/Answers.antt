use Rattle.std.proofs.Common.{◌≡◌, true}
use Rattle.role_member_edit.proofs.Kept.{role_gone}
use Rattle.role_member_edit.proofs.role_delete.apply.Goals as goal

pub invariant_of-guild : goal.invariant_of-guild
invariant_of-guild c =
    let is_open : c.guild.inside.opened ≡ true = cc in
    let accepted = rw (← c.guild.view_is) at c.requires.accepted in
    rw (c.remove.ensures, c.change_all.ensures, c.change_all-2.ensures, c.role.view_is)
    (role_gone _ is_open c.guild.invariant c.args.role accepted)
