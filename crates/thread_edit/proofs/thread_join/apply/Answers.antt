use Rattle.std.proofs.Common.{◌≡◌, true, ap, sym, subst, ◌∙◌}
use Rattle.guild_model.specs.Record.{Record}
use Rattle.guild_model.specs.Consistent.{IsConsistent}
use Rattle.thread_edit.specs.declared.thread_join.ThreadJoin.{ThreadJoin}
use Rattle.thread_edit.specs.ThreadMembers.{thread_joined}
use Rattle.thread_edit.proofs.Kept.{user_joined, joined_as}
use Rattle.thread_edit.proofs.thread_join.apply.Goals as goal

pub invariant_of-guild : goal.invariant_of-guild
invariant_of-guild c =
    let is_open : c.guild.inside.opened ≡ true = cc in
    let accepted = rw (← c.guild.view_is) at c.requires.accepted in
    let members = rw (← c.guild.view_is) at c.in_ok-members.ensures in
    let thread = ap (λ (edit : ThreadJoin). edit.thread) c.edit.view_is in
    rw (c.change.ensures, thread)
    (subst IsConsistent (sym (joined_as _ c.args.edit _ members)) (user_joined _ is_open c.guild.invariant c.args.edit accepted))

pub returns-clause-ok : goal.returns-clause-ok
returns-clause-ok c =
    let members = rw (← c.guild.view_is) at c.in_ok-members.ensures in
    let thread = ap (λ (edit : ThreadJoin). edit.thread) c.edit.view_is in
    rw (c.change.ensures, thread)
    (joined_as _ c.args.edit _ members ∙ ap (λ (g : Record). thread_joined g c.args.edit) c.guild.view_is)
