use Rattle.edit_events.proofs.Keeps.{edit_keeps}
use Rattle.edit_events.proofs.law.edit_keeps.Goals as goal

pub returns : goal.returns
returns c = edit_keeps
