-- The session that begins is the last one, and is told its first dispatches.
use Rattle.worker_core.proofs.worker.Worker.send_ready.Goals as goal
use Rattle.worker_core.proofs.Moving.{greet_made}

pub returns : goal.returns
returns c =
    greet_made c.args.self.now c.args.session c.in_ok-first.first.items c.in_ok-first.ensures.once c.in_ok-first.ensures.list
    c.tell.new.self c.args.out.now.items c.tell.new.out.items c.tell.result c.tell.ensures.core (rw c.as_slice.ensures.value at c.tell.ensures.told)
