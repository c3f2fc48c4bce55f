use Rattle.edit_events.proofs.SameForms.{form-is-due}
use Rattle.edit_events.proofs.law.form_is_due.Goals as goal

pub returns : goal.returns
returns c = form-is-due
