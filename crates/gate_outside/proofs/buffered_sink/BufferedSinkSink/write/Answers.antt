use Rattle.gate_outside.proofs.Fronts.{takes_after}
use Rattle.gate_outside.proofs.buffered_sink.BufferedSinkSink.write.Goals as goal

pub returns-clause-bytes : goal.returns-clause-bytes
returns-clause-bytes g c = takes_after c.pass_by.result _ _ _ _ _ _ c.args.from.now c.in_ok-pass_on.ensures.bytes c.pass_by.ensures.bytes
