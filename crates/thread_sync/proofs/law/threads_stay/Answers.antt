use Rattle.thread_sync.proofs.Sights.{threads_stay}
use Rattle.thread_sync.proofs.law.threads_stay.Goals as goal

pub returns : goal.returns
returns c = threads_stay
