use Rattle.std.proofs.Common.{refl}
use Rattle.gate_outside.specs.declared.faults.Fault.TheVariants as outside
use Rattle.gate_outside.proofs.Fronts.{carries_part}
use Rattle.file_lift.proofs.Flushing.{write_failed, flushed, not_flushed}
use Rattle.file_lift.proofs.lifting.flush_after.Goals as goal

pub returns-in-Err-Write-clause-lifts : goal.returns-in-Err-Write-clause-lifts
returns-in-Err-Write-clause-lifts g c left0 left1 got before h =
    write_failed left0 left1 got (g.K.Sink.got c.args.sink.now) (g.K.Sink.got c.args.sink.now) (g.K.Sink.waits c.args.sink.now) before c.args.lifted c.in-Err-Write.field-0 c.in-Err-Write.is (rw c.in-Err-Write.is at c.in-Err-Write.field-0-is) refl h

pub returns-in-Ok-clause-lifts : goal.returns-in-Ok-clause-lifts
returns-in-Ok-clause-lifts g c left0 left1 got before h =
    flushed left0 left1 got (g.K.Sink.got c.args.sink.now) (g.K.Sink.got c.flush.new.self) (g.K.Sink.waits c.args.sink.now) before c.in-Ok.ensures.ok c.args.lifted h

pub returns-in-Err-Failed-clause-lifts : goal.returns-in-Err-Failed-clause-lifts
returns-in-Err-Failed-clause-lifts g c left0 left1 got before h =
    not_flushed left0 left1 got (g.K.Sink.got c.args.sink.now) (g.K.Sink.got c.flush.new.self) (g.K.Sink.waits c.args.sink.now) before (carries_part _ _ _ _ c.in-Err-Failed.ensures.err) c.args.lifted h outside.Failed

pub returns-in-Err-Memory-clause-lifts : goal.returns-in-Err-Memory-clause-lifts
returns-in-Err-Memory-clause-lifts g c left0 left1 got before h =
    not_flushed left0 left1 got (g.K.Sink.got c.args.sink.now) (g.K.Sink.got c.flush.new.self) (g.K.Sink.waits c.args.sink.now) before (carries_part _ _ _ _ c.in-Err-Memory.ensures.err) c.args.lifted h outside.Memory
