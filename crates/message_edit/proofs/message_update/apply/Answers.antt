use Rattle.message_edit.proofs.Kept.{updated}
use Rattle.message_edit.proofs.message_update.apply.Goals as goal

pub invariant_of-guild : goal.invariant_of-guild
invariant_of-guild c =
    let is_open = rw (← c.guild.view_is) at c.requires in
    rw c.set_mentions.ensures (updated _ is_open c.guild.invariant c.args.edit)
