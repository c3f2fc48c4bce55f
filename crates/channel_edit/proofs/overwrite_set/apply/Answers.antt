use Rattle.std.proofs.Common.{◌≡◌, true, ap, sym, subst, ◌∙◌}
use Rattle.guild_model.specs.Record.{Record}
use Rattle.guild_model.specs.Consistent.{IsConsistent}
use Rattle.channel_edit.specs.declared.overwrite_set.OverwriteSet.{OverwriteSet}
use Rattle.channel_edit.specs.OverwriteEdits.{overwrite_was_set}
use Rattle.channel_edit.proofs.Kept.{overwrite_set, set_as}
use Rattle.channel_edit.proofs.overwrite_set.apply.Goals as goal

pub invariant_of-guild : goal.invariant_of-guild
invariant_of-guild c =
    let is_open : c.guild.inside.opened ≡ true = cc in
    let accepted = rw (← c.guild.view_is) at c.requires.accepted in
    let overwrites = rw (← c.guild.view_is) at c.in_ok-overwrites.ensures in
    rw (c.change.ensures, ap (λ (edit : OverwriteSet). edit.channel) c.edit.view_is)
    (subst IsConsistent (sym (set_as _ c.args.edit _ overwrites)) (overwrite_set _ is_open c.guild.invariant c.args.edit accepted))

pub returns-clause-ok : goal.returns-clause-ok
returns-clause-ok c =
    let overwrites = rw (← c.guild.view_is) at c.in_ok-overwrites.ensures in
    rw (c.change.ensures, ap (λ (edit : OverwriteSet). edit.channel) c.edit.view_is)
    (set_as _ c.args.edit _ overwrites ∙ ap (λ (g : Record). overwrite_was_set g c.args.edit) c.guild.view_is)
