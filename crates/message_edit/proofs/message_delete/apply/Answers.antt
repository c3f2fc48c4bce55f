use Rattle.message_edit.proofs.Kept.{deleted}
use Rattle.message_edit.proofs.message_delete.apply.Goals as goal

pub invariant_of-guild : goal.invariant_of-guild
invariant_of-guild c =
    let is_open = rw (← c.guild.view_is) at c.requires in
    rw c.remove.ensures (deleted _ is_open c.guild.invariant c.args.message)
