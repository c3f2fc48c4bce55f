use Rattle.thread_sync.proofs.Synced.{sync_restores}
use Rattle.thread_sync.proofs.law.sync_restores.Goals as goal

pub returns : goal.returns
returns c = sync_restores
