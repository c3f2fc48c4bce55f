use Rattle.std.proofs.Common.{take, append-nil}
use Rattle.gate_outside.proofs.std_streams.StdoutSinkSink.write.Goals as goal

pub returns-then-count-gt0-clause-bytes : goal.returns-then-count-gt0-clause-bytes
returns-then-count-gt0-clause-bytes g c =
    let piece = take c.in-Ok.count c.args.from.now in
    record { sent = piece; is = append-nil piece; wrote = tt }
