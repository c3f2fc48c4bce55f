use Rattle.std.proofs.Common.{◌≡◌, true}
use Rattle.role_member_edit.proofs.Kept.{member_gone}
use Rattle.role_member_edit.proofs.member_remove.apply.Goals as goal

pub invariant_of-guild : goal.invariant_of-guild
invariant_of-guild c =
    let is_open : c.guild.inside.opened ≡ true = cc in
    let accepted = rw (← c.guild.view_is) at c.requires.accepted in
    rw (c.remove.ensures, c.change_all.ensures, c.remove-2.ensures, c.remove-3.ensures, c.user.view_is, c.user-2.view_is)
    (member_gone _ is_open c.guild.invariant c.args.user accepted)
