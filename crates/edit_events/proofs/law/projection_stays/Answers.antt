use Rattle.edit_events.proofs.Others.{projection_stays}
use Rattle.edit_events.proofs.law.projection_stays.Goals as goal

pub returns : goal.returns
returns c = projection_stays
