-- A step in the words of the model.
use Rattle.std.proofs.Common.{Vec, Global}
use Rattle.worker_core.specs.declared.io.Output.{Output}
use Rattle.worker_core.proofs.Moving.{steps}
use Rattle.worker_core.proofs.worker.Worker.step.Goals as goal

pub returns-in-Err-clause-steps : goal.returns-in-Err-clause-steps
returns-in-Err-clause-steps c w i stands is =
    rw c.in-Err.is (rw c.in-Err.is at (steps c.args.self.now c.take_whole-given.new.self w i (λ (out : Vec Output Global). out.items) c.take_whole-given.result stands (c.take_whole-given.ensures i is)))

pub returns-in_default-given-clause-steps : goal.returns-in_default-given-clause-steps
returns-in_default-given-clause-steps c w i stands is =
    steps c.args.self.now c.take_whole-given.new.self w i (λ (out : Vec Output Global). out.items) c.take_whole-given.result stands (c.take_whole-given.ensures i is)
