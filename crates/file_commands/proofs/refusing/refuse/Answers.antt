use Rattle.std.proofs.Common.{sym, subst}
use Rattle.file_commands.specs.Usage.{TellsUsage}
use Rattle.file_commands.proofs.Usage.{tells_usage}
use Rattle.file_commands.proofs.refusing.refuse.Goals as goal

pub returns : goal.returns
returns g c =
    let got0 = g.K.Sink.got c.args.sink.now in
    let got1 = g.K.Sink.got c.write_usage.new.sink in
    let before = g.K.Sink.waits c.args.sink.now in
    subst (λ n. TellsUsage got0 got1 before (g.K.Sink.faults c.args.sink.now) (g.K.Sink.faults c.write_usage.new.sink) n) (sym c.usage_status.ensures)
    (tells_usage c.write_usage.result got0 got1 before (g.K.Sink.faults c.args.sink.now) (g.K.Sink.faults c.write_usage.new.sink) c.write_usage.ensures.ok c.write_usage.ensures.err c.write_usage.ensures.cause)
