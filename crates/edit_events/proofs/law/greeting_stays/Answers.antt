use Rattle.edit_events.proofs.Others.{greeting_stays}
use Rattle.edit_events.proofs.law.greeting_stays.Goals as goal

pub returns : goal.returns
returns c = greeting_stays
