use Rattle.std.proofs.Common.{◌≡◌, ◌≤◌, ◌-◌, length}
use Rattle.file_lines.specs.Lines.{IsPiece}
use Rattle.file_lines.proofs.Reading.{ReadsOn}
use Rattle.file_lines.proofs.line_reader.LineReader.read.Given as goal

-- what was read so far is the line so far, which is not too long
abbrev pub invariant-loop-self : goal.invariant-loop-self
invariant-loop-self g l = record {
  read : ReadsOn (g.S.Source.left l.fn.source) (g.S.Source.left l.source) l.fn.self.ahead l.self.line l.self.ahead;
  piece : IsPiece l.self.line;
  short : length l.self.line ≤ l.most;
  faults : g.S.Source.faults l.source ≡ g.S.Source.faults l.fn.source;
}

abbrev pub decreases-loop-self : goal.decreases-loop-self
decreases-loop-self g l = l.most - length l.self.line
