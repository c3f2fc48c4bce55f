use Rattle.thread_sync.proofs.Enough.{lists_are_enough}
use Rattle.thread_sync.proofs.law.lists_are_enough.Goals as goal

pub returns : goal.returns
returns c = lists_are_enough
