-- The dispatches of the sessions that end are counted.
use Rattle.std.proofs.Common.{Vec, Global}
use Rattle.worker_core.specs.declared.io.Output.{Output}
use Rattle.worker_core.proofs.Counting.{some_end}
use Rattle.worker_core.proofs.worker.Worker.take_ending.Goals as goal

pub returns : goal.returns
returns c i is some =
    some_end c.args.self.now i c.take-given.new.self c.count_ended.new.self c.live_dispatches-before.result (λ (out : Vec Output Global). out.items) c.take-given.result
    some c.live_dispatches-before.ensures c.count_ended.ensures (c.take-given.ensures i is)
