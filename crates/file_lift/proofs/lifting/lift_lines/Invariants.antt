use Rattle.std.proofs.Common.{◌≡◌, ◌-◌}
use Rattle.file_lift.specs.Lifting.{HasLifted}
use Rattle.file_lift.proofs.lifting.lift_lines.Given as goal

-- the lines so far were lifted
abbrev pub invariant-loop-lifter : goal.invariant-loop-lifter
invariant-loop-lifter g l = record {
  lifted : HasLifted (g.S.Source.left l.fn.source) (g.S.Source.left l.source) (g.K.Sink.waits l.fn.sink) (g.K.Sink.got l.fn.sink) (g.K.Sink.got l.sink) (g.K.Sink.waits l.sink) l.lifter;
  reads : g.S.Source.faults l.source ≡ g.S.Source.faults l.fn.source;
  writes : g.K.Sink.faults l.sink ≡ g.K.Sink.faults l.fn.sink;
}

abbrev pub decreases-loop-lifter : goal.decreases-loop-lifter
decreases-loop-lifter g l = 1000001 - l.lifter.reader.lines
