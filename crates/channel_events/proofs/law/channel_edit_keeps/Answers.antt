use Rattle.channel_events.proofs.Follows.{follows-channel}
use Rattle.channel_events.proofs.law.channel_edit_keeps.Goals as goal

pub returns : goal.returns
returns c = follows-channel
