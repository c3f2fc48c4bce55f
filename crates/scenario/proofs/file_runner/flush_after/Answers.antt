use Rattle.std.proofs.lemmas.Result.{err_from_is_err_and}
use Rattle.scenario.proofs.Settling.{front_ends}
use Rattle.gate_outside.proofs.Fronts.{carries_part}
use Rattle.scenario.proofs.file_runner.flush_after.Goals as goal

pub returns-in_err-flush-in-Ok-clause-ends : goal.returns-in_err-flush-in-Ok-clause-ends
returns-in_err-flush-in-Ok-clause-ends g c got text end h =
    let e = err_from_is_err_and c.from_residual.result c.from_residual.ensures.1 in
    rw e.1 (rw e.2 (front_ends c.in_err-flush-in-Ok.field-0.0 got _ _ (g.K.Sink.waits c.args.sink.now) text end (carries_part _ _ _ _ c.in_err-flush-in-Ok.ensures.err) (rw c.in-Ok.is at h)))

pub returns-in-Err-clause-ends : goal.returns-in-Err-clause-ends
returns-in-Err-clause-ends g c got text end h = c.flush_at_fault.ensures.ends got text end (rw c.in-Err.is at h)

pub returns-in-Err-clause-cause : goal.returns-in-Err-clause-cause
returns-in-Err-clause-cause g c before h = c.flush_at_fault.ensures.cause before (rw c.in-Err.is at h)
