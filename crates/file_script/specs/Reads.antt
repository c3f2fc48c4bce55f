-- How a script's file is read.
use Rattle.std.specs.Prelude.{◌≡◌, ℕ, ◌<◌, ◌≤◌, List, [], ◌∷◌, ◌++◌, length, ◌⊎◌, Bool, true, false, Option, Some, None, Result, Ok, Err}
use Rattle.std.specs.declared.option.Option.{Option as Known}
use Rattle.std.specs.declared.option.Option.TheVariants as known
use Rattle.std.specs.Io.KnownBytes.{IsAtEnd}
use Rattle.gate_outside.specs.Causes.{Rose}
use Rattle.gate_outside.specs.declared.faults.Fault.{Fault}
use Rattle.file_lines.specs.Lines.{whole_lines, tail, lines_of, IsPiece}
use Rattle.edit_text.specs.declared.line.Line.{Line}
use Rattle.edit_text.specs.declared.reader_state.ReaderState.{ReaderState}
use Rattle.edit_text.specs.Lines.{line_of, reader_after}
use Rattle.file_script.specs.declared.fault.ScriptFault.{ScriptFault}
use Rattle.file_script.specs.declared.fault.ScriptFault.TheVariants as script
use Rattle.file_script.specs.declared.script_lines.ScriptLines.{ScriptLines}
use Rattle.file_script.specs.Faults.{fault_of}
use Rattle.file_script.specs.Accepted.{reader_of, IsWhole, StopsAfter, BeginsWith}

-- a source's count of faults rose exactly if the fault is that a read failed
abbrev pub ReadCause : {T : Type 0} → (before now : ℕ) → Result T ScriptFault → Type 0
ReadCause before now (Ok x) = now ≡ before
ReadCause before now (Err script.Read) = Rose before now
ReadCause before now (Err (script.Line line fault)) = now ≡ before
ReadCause before now (Err script.Spent) = now ≡ before
ReadCause before now (Err script.Memory) = now ≡ before

-- ---- between lines

-- Of a source that has these bytes left, those were read so far. Their first lines, up to a line feed or the end of the
-- file, were given, but for blank ones, and none of them is refused.
pub record HasGiven (left : Known (List ℕ)) (k : ScriptLines) (bytes : List ℕ) (given : List Line) : Type 0 where
  pub done : List ℕ
  pub is : bytes ≡ done ++ k.lines.ahead
  pub reader : k.reader ≡ reader_of (lines_of done)
  pub whole : IsWhole (lines_of done) given
  pub at_feed : k.ended ≡ false → tail done ≡ []
  pub at_end : k.ended ≡ true → (k.lines.ahead ≡ []) × IsAtEnd left

-- how the next line of a script comes: it, the end of the file, or a fault
abbrev pub Gives : Known (List ℕ) → ScriptLines → List ℕ → List Line → Result (Option Line) ScriptFault → Type 0
Gives left k bytes given (Ok (Some line)) = HasGiven left k bytes (given ++ line ∷ [])
Gives left k bytes given (Ok None) = IsAtEnd left × IsWhole (lines_of bytes) given
Gives left k bytes given (Err script.Read) = IsWhole (whole_lines bytes) given
Gives left k bytes given (Err (script.Line line fault)) = (rest : List ℕ) → left ≡ known.Some rest → StopsAfter (lines_of (bytes ++ rest)) given line fault
Gives left k bytes given (Err script.Spent) = ⊥
Gives left k bytes given (Err script.Memory) = (rest : List ℕ) → left ≡ known.Some rest → BeginsWith (lines_of (bytes ++ rest)) given

-- ---- within the reading of a line

-- a line feed has ended the line; it is too long, so that all that follows is one with it; or the file ends with it
abbrev pub IsNextLine : Known (List ℕ) → ScriptLines → (bytes done : List ℕ) → Type 0
IsNextLine left k bytes done =
    ((k.ended ≡ false) × (bytes ≡ done ++ (k.lines.line ++ 10 ∷ k.lines.ahead)))
    ⊎ (((65536 < length k.lines.line) × (bytes ≡ done ++ (k.lines.line ++ k.lines.ahead)))
    ⊎ ((k.ended ≡ true) × (0 < length k.lines.line) × (bytes ≡ done ++ k.lines.line) × (k.lines.ahead ≡ []) × IsAtEnd left))

-- the bytes of a line were read, after those of the lines that were given
pub record HasLine (left : Known (List ℕ)) (k : ScriptLines) (bytes : List ℕ) (given : List Line) : Type 0 where
  pub done : List ℕ
  pub reader : k.reader ≡ reader_of (lines_of done)
  pub whole : IsWhole (lines_of done) given
  pub at_feed : tail done ≡ []
  pub piece : IsPiece k.lines.line
  pub next : IsNextLine left k bytes done

abbrev pub LineComes : Known (List ℕ) → ScriptLines → List ℕ → List Line → Result Bool Fault → Type 0
LineComes left k bytes given (Ok true) = HasLine left k bytes given
LineComes left k bytes given (Ok false) = Gives left k bytes given (Ok None)
LineComes left k bytes given (Err fault) = Gives left k bytes given (Err (fault_of fault))

-- what the bytes of a line say after the lines before them
abbrev pub IsParsed : ReaderState → List ℕ → ReaderState → Result (Option Line) ScriptFault → Type 0
IsParsed r line now (Ok said) = (line_of r line ≡ Ok said) × (now ≡ reader_after r line)
IsParsed r line now (Err script.Read) = ⊥
IsParsed r line now (Err (script.Line number fault)) = (line_of r line ≡ Err fault) × (number ≡ (reader_after r line).lines)
IsParsed r line now (Err script.Spent) = ⊥
IsParsed r line now (Err script.Memory) = Unit {0}

-- a line more was counted, of which a file has at most a million
abbrev pub CountsOn : (old now : ReaderState) → Type 0
CountsOn old now = (old.lines < now.lines) × (now.lines ≤ 1000000)
