use Rattle.message_events.proofs.Alike.{form-decides}
use Rattle.message_events.proofs.law.form_decides.Goals as goal

pub returns : goal.returns
returns c = form-decides
