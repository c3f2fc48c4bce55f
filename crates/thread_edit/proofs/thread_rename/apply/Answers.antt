use Rattle.std.proofs.Common.{ap}
use Rattle.thread_edit.specs.declared.thread_rename.ThreadRename.{ThreadRename}
use Rattle.thread_edit.proofs.Kept.{renamed}
use Rattle.thread_edit.proofs.thread_rename.apply.Goals as goal

pub invariant_of-guild : goal.invariant_of-guild
invariant_of-guild c =
    let is_open = rw (← c.guild.view_is) at c.requires in
    let thread = ap (λ (edit : ThreadRename). edit.thread) c.edit.view_is in
    let name = ap (λ (edit : ThreadRename). edit.name) c.edit.view_is in
    rw (c.change.ensures, thread, name) (renamed _ is_open c.guild.invariant c.args.edit)
