use Rattle.std.proofs.Common.{◌≡◌, true}
use Rattle.channel_edit.proofs.Kept.{channel_came}
use Rattle.channel_edit.proofs.channel_create.apply.Goals as goal

pub invariant_of-guild-2 : goal.invariant_of-guild-2
invariant_of-guild-2 c =
    let is_open : c.guild.inside.opened ≡ true = cc in
    let accepted = rw (← c.guild.view_is) at c.requires.accepted in
    let overwrites = rw (← c.guild.view_is) at c.in_ok-overwrites.ensures in
    rw (c.in_ok-insert.ensures.ok, overwrites)
    (channel_came _ is_open c.guild.invariant c.args.edit accepted)
