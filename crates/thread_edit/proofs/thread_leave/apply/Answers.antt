use Rattle.std.proofs.Common.{ap}
use Rattle.thread_edit.specs.declared.thread_leave.ThreadLeave.{ThreadLeave}
use Rattle.thread_edit.proofs.Kept.{user_left}
use Rattle.thread_edit.proofs.thread_leave.apply.Goals as goal

pub invariant_of-guild : goal.invariant_of-guild
invariant_of-guild c =
    let is_open = rw (← c.guild.view_is) at c.requires in
    let thread = ap (λ (edit : ThreadLeave). edit.thread) c.edit.view_is in
    let user = ap (λ (edit : ThreadLeave). edit.user) c.edit.view_is in
    rw (c.change.ensures, thread, user) (user_left _ is_open c.guild.invariant c.args.edit)
