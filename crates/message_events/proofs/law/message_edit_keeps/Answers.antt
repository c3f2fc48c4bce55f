use Rattle.message_events.proofs.Follows.{follows-message}
use Rattle.message_events.proofs.law.message_edit_keeps.Goals as goal

pub returns : goal.returns
returns c = follows-message
