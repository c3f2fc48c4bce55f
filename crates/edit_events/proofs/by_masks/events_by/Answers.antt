use Rattle.std.proofs.Common.{◌∙◌}
use Rattle.edit_events.proofs.Noted.{noted_due}
use Rattle.edit_events.proofs.by_masks.events_by.Goals as goal

pub returns-clause-due : goal.returns-clause-due
returns-clause-due g c before noted is accepted =
    c.in_ok-list.ensures ∙ noted_due before c.args.after.now c.args.viewer.now c.args.was.now c.args.edit.now noted is accepted
