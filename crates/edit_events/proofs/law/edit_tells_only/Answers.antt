use Rattle.edit_events.proofs.Only.{edit_tells_only}
use Rattle.edit_events.proofs.law.edit_tells_only.Goals as goal

pub returns : goal.returns
returns c = edit_tells_only
