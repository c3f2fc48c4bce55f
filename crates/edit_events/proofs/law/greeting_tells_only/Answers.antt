use Rattle.edit_events.proofs.Only.{greeting_tells_only}
use Rattle.edit_events.proofs.law.greeting_tells_only.Goals as goal

pub returns : goal.returns
returns c = greeting_tells_only
