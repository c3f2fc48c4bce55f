use Rattle.std.proofs.Common.{◌≡◌, ◌++◌, ℕ, List, [], true}
use Rattle.std.specs.Io.KnownBytes.{Consumes, IsAtEnd}
use Rattle.scenario.specs.Played.{Written, Fits, room}
use Rattle.scenario.proofs.playing.play_on.Given as goal

abbrev pub invariant-loop-play : goal.invariant-loop-play
invariant-loop-play g l = record {
  plays : (bytes : List ℕ) × Consumes (g.S.Source.left l.fn.source) (g.S.Source.left l.source) (bytes ++ l.piece) × Written (g.K.Sink.got l.fn.sink) (g.K.Sink.got l.sink) (g.K.Sink.waits l.sink) l.play bytes;
  at_end : l.piece ≡ [] → IsAtEnd (g.S.Source.left l.source);
  ended : l.piece ≡ [] → g.S.Source.ended l.source ≡ true;
  fits : Fits l.play;
  reads : g.S.Source.faults l.source ≡ g.S.Source.faults l.fn.source;
  writes : g.K.Sink.faults l.sink ≡ g.K.Sink.faults l.fn.sink;
}

abbrev pub decreases-loop-play : goal.decreases-loop-play
decreases-loop-play g l = room l.play
