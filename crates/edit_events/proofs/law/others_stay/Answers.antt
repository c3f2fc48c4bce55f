use Rattle.edit_events.proofs.Others.{others_stay}
use Rattle.edit_events.proofs.law.others_stay.Goals as goal

pub returns : goal.returns
returns c = others_stay
