use Rattle.thread_sync.proofs.Enough.{one_sight_is_enough}
use Rattle.thread_sync.proofs.law.one_sight_is_enough.Goals as goal

pub returns : goal.returns
returns c = one_sight_is_enough
