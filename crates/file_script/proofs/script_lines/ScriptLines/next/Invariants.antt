use Rattle.std.proofs.Common.{◌≡◌, ◌≤◌, ◌-◌, ◌++◌, ℕ, List}
use Rattle.std.specs.Io.KnownBytes.{Consumes}
use Rattle.edit_text.specs.declared.line.Line.{Line}
use Rattle.file_script.specs.Reads.{HasGiven}
use Rattle.file_script.proofs.script_lines.ScriptLines.next.Given as goal

-- the lines so far were blank
abbrev pub invariant-loop-self : goal.invariant-loop-self
invariant-loop-self g l = record {
  given : (bytes : List ℕ) (given : List Line) → HasGiven (g.S.Source.left l.fn.source) l.fn.self bytes given
      → (more : List ℕ) × Consumes (g.S.Source.left l.fn.source) (g.S.Source.left l.source) more × HasGiven (g.S.Source.left l.source) l.self (bytes ++ more) given;
  counts : l.fn.self.reader.lines ≤ l.self.reader.lines;
  faults : g.S.Source.faults l.source ≡ g.S.Source.faults l.fn.source;
}

abbrev pub decreases-loop-self : goal.decreases-loop-self
decreases-loop-self g l = 1000001 - l.self.reader.lines
