use Rattle.message_edit.proofs.Kept.{head_came}
use Rattle.message_edit.proofs.message_create.keep.Goals as goal

pub invariant_of-guild-2 : goal.invariant_of-guild-2
invariant_of-guild-2 c =
    let is_open = rw (← c.guild.view_is) at c.requires.open in
    let there = rw (← c.guild.view_is) at c.requires.channel in
    rw c.in_ok-push.ensures.ok (head_came _ is_open c.guild.invariant c.args.head there)
