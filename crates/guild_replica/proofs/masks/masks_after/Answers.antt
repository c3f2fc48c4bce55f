use Rattle.std.proofs.Common.{◌≡◌, subst, sym, ap, ◌∙◌, true}
use Rattle.guild_model.specs.Record.{Record}
use Rattle.edit_apply.specs.declared.Edit.{Edit}
use Rattle.edit_apply.specs.declared.Edit.TheVariants.{Message}
use Rattle.edit_apply.specs.Edits.{accepts, applied}
use Rattle.guild_replica.specs.Replicas.{EachKept}
use Rattle.guild_replica.proofs.Served.{each-then}
use Rattle.guild_replica.proofs.masks.masks_after.Goals as goal

pub returns-in-Message : goal.returns-in-Message
returns-in-Message c =
    let before = c.requires.0 in
    let is : c.args.edit.now ≡ Message c.in-Message.field-0 = c.in-Message.is in
    let accepted : accepts before (Message c.in-Message.field-0) ≡ true = subst (λ (e : Edit). accepts before e ≡ true) is c.requires.1 in
    subst (λ (s : Record). EachKept s c.args.users.now c.args.masks.items) (sym (c.requires.2 ∙ ap (applied before) is))
    (each-then before c.in-Message.field-0 accepted c.args.users.now c.args.masks.items c.requires.3)
