use Rattle.std.proofs.Common.{sym}
use Rattle.std.proofs.lemmas.Result.{on_err_weaker}
use Rattle.gate_outside.proofs.Fronts.{carries_on, carries_rest}
use Rattle.gate_outside.proofs.buffered_sink.BufferedSinkSink.flush.Goals as goal

-- what the buffer held waits behind it, or went out there
pub returns-clause-err : goal.returns-clause-err
returns-clause-err g c =
    let before = rw (sym c.self.view_is) at c.in_ok-pass_on.ensures.bytes in
    on_err_weaker c.flush.result (λ h. carries_on _ _ _ _ _ _ before (carries_rest _ _ _ _ c.self.inside.buffer.items h)) c.flush.ensures.err
