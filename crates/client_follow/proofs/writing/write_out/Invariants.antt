-- what was written so far, and what still waits
use Rattle.std.proofs.Common.{◌≡◌, ◌++◌, length}
use Rattle.gate_outside.specs.Streams.{Carries}
use Rattle.client_follow.proofs.writing.write_out.Given as goal

abbrev pub invariant-loop-sink : goal.invariant-loop-sink
invariant-loop-sink g l = record {
  carries : Carries (g.K.Sink.got l.fn.sink) (g.K.Sink.got l.sink) (g.K.Sink.waits l.sink ++ l.waiting.items) (g.K.Sink.waits l.fn.sink ++ l.fn.waiting.items);
  same : g.K.Sink.faults l.sink ≡ g.K.Sink.faults l.fn.sink;
}

abbrev pub decreases-loop-sink : goal.decreases-loop-sink
decreases-loop-sink g l = length l.waiting.items
