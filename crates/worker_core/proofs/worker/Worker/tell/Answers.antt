-- The session of the number in the worker's value.
use Rattle.worker_core.proofs.worker.Worker.tell.Goals as goal

pub returns-clause-told : goal.returns-clause-told
returns-clause-told c index is = rw (← c.self.view_is) (c.tell.ensures index (rw (← c.self.view_is) at is))
