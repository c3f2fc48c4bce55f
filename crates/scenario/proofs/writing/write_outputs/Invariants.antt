use Rattle.std.proofs.Common.{◌≡◌, ◌++◌, take}
use Rattle.scenario.specs.Server.{Server, followed}
use Rattle.scenario.specs.Transcript.{outputs_text}
use Rattle.scenario.specs.Represents.{Represents}
use Rattle.gate_outside.specs.Streams.{Carries}
use Rattle.scenario.proofs.writing.write_outputs.Given as goal

abbrev pub invariant-loop-output : goal.invariant-loop-output
invariant-loop-output g l = record {
  follows : (p : Server) → Represents l.fn.server p
      → Represents l.server (followed p (take l.output-index l.outputs))
      × Carries (g.K.Sink.got l.fn.sink) (g.K.Sink.got l.sink) (g.K.Sink.waits l.sink) (g.K.Sink.waits l.fn.sink ++ outputs_text p l.line (take l.output-index l.outputs));
  faults : g.K.Sink.faults l.sink ≡ g.K.Sink.faults l.fn.sink;
}
