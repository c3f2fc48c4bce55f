use Rattle.whole_events.proofs.Follows.{edit_follows}
use Rattle.whole_events.proofs.law.edit_follows.Goals as goal

pub returns : goal.returns
returns c = edit_follows
