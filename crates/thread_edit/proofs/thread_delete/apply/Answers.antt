use Rattle.thread_edit.proofs.Kept.{thread_gone}
use Rattle.thread_edit.proofs.thread_delete.apply.Goals as goal

pub invariant_of-guild : goal.invariant_of-guild
invariant_of-guild c =
    let is_open = rw (← c.guild.view_is) at c.requires in
    rw (c.remove.ensures, c.remove_in.ensures, c.thread.view_is) (thread_gone _ is_open c.guild.invariant c.args.thread)
