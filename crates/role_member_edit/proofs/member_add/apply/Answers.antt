use Rattle.std.proofs.Common.{◌≡◌, true}
use Rattle.role_member_edit.proofs.Kept.{added}
use Rattle.role_member_edit.proofs.member_add.apply.Goals as goal

pub invariant_of-guild : goal.invariant_of-guild
invariant_of-guild c = rw c.in_err-insert.ensures.err c.guild.invariant

pub invariant_of-guild-2 : goal.invariant_of-guild-2
invariant_of-guild-2 c =
    let is_open : c.guild.inside.opened ≡ true = cc in
    rw (c.in_ok-insert.ensures.ok, c.new.ensures) (added _ is_open c.guild.invariant c.args.edit)
