use Rattle.std.proofs.Common.{◌≡◌, length}
use Rattle.scenario.proofs.Feeding.{Fed}
use Rattle.scenario.proofs.file_runner.FileRunner.play_bytes.Given as goal

abbrev pub invariant-loop-piece : goal.invariant-loop-piece
invariant-loop-piece g l = record {
  fed : Fed l.fn.chunk (g.K.Sink.got l.fn.sink) (g.K.Sink.got l.sink) (g.K.Sink.waits l.fn.sink) (g.K.Sink.waits l.sink) l.fn.self l.self l.rest;
  faults : g.K.Sink.faults l.sink ≡ g.K.Sink.faults l.fn.sink;
}

abbrev pub decreases-loop-piece : goal.decreases-loop-piece
decreases-loop-piece g l = length l.rest
