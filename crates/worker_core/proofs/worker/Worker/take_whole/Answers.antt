-- What masks are kept is said of a step that succeeds.
use Rattle.worker_core.proofs.Moving.{taken_whole}
use Rattle.worker_core.proofs.worker.Worker.take_whole.Goals as goal

pub returns : goal.returns
returns c i is =
    taken_whole c.args.self.now c.take_counted.new.self c.keep_masks.new.self i c.in_ok-out.out.items (c.in_ok-out.ensures i is) c.in_ok-keep_masks.ensures.same c.in_ok-keep_masks.ensures.kept
