use Rattle.edit_events.proofs.Keeps.{greeting_holds}
use Rattle.edit_events.proofs.law.greeting_holds.Goals as goal

pub returns : goal.returns
returns c = greeting_holds
