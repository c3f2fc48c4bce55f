use Rattle.std.proofs.Common.{◌≡◌, true}
use Rattle.role_member_edit.proofs.Kept.{nicked}
use Rattle.role_member_edit.proofs.member_nick.apply.Goals as goal

pub invariant_of-guild : goal.invariant_of-guild
invariant_of-guild c =
    let is_open : c.guild.inside.opened ≡ true = cc in
    rw c.change.ensures (nicked _ is_open c.guild.invariant _ _)
