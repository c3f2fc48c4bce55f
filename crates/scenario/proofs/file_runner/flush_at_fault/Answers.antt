use Rattle.gate_outside.proofs.Fronts.{carries_part}
use Rattle.scenario.proofs.Settling.{ends_refused, not_risen, refused_cause}
use Rattle.scenario.proofs.file_runner.flush_at_fault.Goals as goal

pub returns-in-Err : goal.returns-in-Err
returns-in-Err g c = record {
  ends = λ got text end leaves. rw c.from.ensures (ends_refused c.args.fault c.in-Err.refused got _ _ (g.K.Sink.waits c.args.sink.now) text end (carries_part _ _ _ _ c.in-Err.ensures.err) leaves);
  cause = λ before h. rw c.from.ensures (refused_cause c.in-Err.refused before _ _ c.in-Err.ensures.cause (not_risen c.args.fault before _ c.in_default.not-Write h));
}
