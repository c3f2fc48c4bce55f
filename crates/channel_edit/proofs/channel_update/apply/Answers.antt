use Rattle.std.proofs.Common.{◌≡◌, true}
use Rattle.channel_edit.proofs.Kept.{updated}
use Rattle.channel_edit.proofs.channel_update.apply.Goals as goal

pub invariant_of-guild : goal.invariant_of-guild
invariant_of-guild c =
    let is_open : c.guild.inside.opened ≡ true = cc in
    rw (c.change.ensures, c.channel.view_is) (updated _ is_open c.guild.invariant c.args.edit)
