use Rattle.std.proofs.Common.{◌≡◌, true}
use Rattle.guild_model.proofs.Kept.{role_set}
use Rattle.role_member_edit.proofs.role_update.apply.Goals as goal

pub invariant_of-guild : goal.invariant_of-guild
invariant_of-guild c =
    let is_open : c.guild.inside.opened ≡ true = cc in
    rw c.replace.ensures (role_set _ is_open c.guild.invariant _)
