use Rattle.edit_events.proofs.Messages.{messages-shown}
use Rattle.edit_events.proofs.law.messages_are_shown.Goals as goal

pub returns : goal.returns
returns c = messages-shown
