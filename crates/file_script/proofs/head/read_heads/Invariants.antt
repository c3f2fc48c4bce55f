use Rattle.std.proofs.Common.{◌≡◌, ◌-◌, [], ℕ, List}
use Rattle.std.specs.Io.KnownBytes.{Consumes}
use Rattle.edit_text.specs.declared.line.Line.{Line}
use Rattle.file_script.specs.Reads.{HasGiven}
use Rattle.file_script.specs.Sends.{AddsHeads}
use Rattle.file_script.proofs.head.read_heads.Given as goal

-- the lines so far are head lines, and were added
abbrev pub invariant-loop-line : goal.invariant-loop-line
invariant-loop-line g l = record {
  reads : HasGiven (g.S.Source.left l.fn.source) l.fn.lines [] []
      → (bytes : List ℕ) × (heads : List Line) × Consumes (g.S.Source.left l.fn.source) (g.S.Source.left l.source) bytes × HasGiven (g.S.Source.left l.source) l.lines bytes heads × AddsHeads heads l.fn.declared l.declared;
  faults : g.S.Source.faults l.source ≡ g.S.Source.faults l.fn.source;
}

abbrev pub decreases-loop-line : goal.decreases-loop-line
decreases-loop-line g l = 1000001 - l.lines.reader.lines
