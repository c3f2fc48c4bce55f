use Rattle.thread_events.proofs.Follows.{follows-thread}
use Rattle.thread_events.proofs.law.thread_edit_keeps.Goals as goal

pub returns : goal.returns
returns c = follows-thread
