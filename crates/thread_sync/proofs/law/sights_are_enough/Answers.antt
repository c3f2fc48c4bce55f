use Rattle.thread_sync.proofs.Enough.{sights_are_enough}
use Rattle.thread_sync.proofs.law.sights_are_enough.Goals as goal

pub returns : goal.returns
returns c = sights_are_enough
