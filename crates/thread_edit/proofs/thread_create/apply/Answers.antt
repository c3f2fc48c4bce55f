use Rattle.std.proofs.Common.{◌≡◌, true}
use Rattle.thread_edit.proofs.Kept.{thread_came}
use Rattle.thread_edit.proofs.thread_create.apply.Goals as goal

pub invariant_of-guild-2 : goal.invariant_of-guild-2
invariant_of-guild-2 c =
    let is_open : c.guild.inside.opened ≡ true = cc in
    let accepted = rw (← c.guild.view_is) at c.requires.accepted in
    rw (c.in_ok-insert.ensures.ok, c.in_ok-members.ensures)
    (thread_came _ is_open c.guild.invariant c.args.edit accepted)
