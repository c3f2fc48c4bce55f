use Rattle.std.proofs.Common.{◌≡◌, ◌≤◌, ◌-◌, ◌++◌, length, take}
use Rattle.gate_outside.specs.Streams.{Carries}
use Rattle.gate_outside.proofs.streams.offer.Given as goal

abbrev pub invariant-loop-taken : goal.invariant-loop-taken
invariant-loop-taken g l = record {
  in_range : l.taken ≤ length l.bytes;
  carried : Carries (g.K.Sink.got l.fn.sink) (g.K.Sink.got l.sink) (g.K.Sink.waits l.sink) (g.K.Sink.waits l.fn.sink ++ take l.taken l.bytes);
  same : g.K.Sink.faults l.sink ≡ g.K.Sink.faults l.fn.sink;
}

abbrev pub decreases-loop-taken : goal.decreases-loop-taken
decreases-loop-taken g l = length l.bytes - l.taken
