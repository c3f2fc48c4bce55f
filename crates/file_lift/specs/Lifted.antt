-- What is written of a step file that is lifted.
use Rattle.std.specs.Prelude.{◌≡◌, ℕ, List, [], ◌∷◌, ◌++◌, length, map, nat_lt, decimal, codes, Option, Some, None, Result, Ok, Err, if◌then◌else◌}
use Rattle.serde_json.specs.Written.{compact_text}
use Rattle.json_view.specs.Fields.{and_then}
use Rattle.edit_fields.specs.declared.fault.LineFault.{LineFault}
use Rattle.edit_fields.specs.declared.fault.LineFault.TheVariants.{TooLong}
use Rattle.line_faults.specs.Faults.{fault_number, fault_name}
use Rattle.edit_text.specs.declared.line.FileKind.TheVariants.{Run}
use Rattle.edit_text.specs.declared.line.Line.{Line}
use Rattle.edit_text.specs.declared.reader_state.ReaderState.{ReaderState}
use Rattle.edit_text.specs.Lines.{line_of, reader_after}
use Rattle.edit_text.specs.Reader.{first_reader, number_of}
use Rattle.edit_text.specs.Written.{line_data}
use Rattle.edit_text.specs.Lifted.{lifted}
use Rattle.file_lines.specs.Lines.{lines_of}

-- ---- one line

-- what a line says, in its newest version
abbrev pub newest : Option Line → Option Line
newest None = None
newest (Some line) = Some (lifted line)

-- what is written of it: of a blank line nothing
abbrev pub text_of : Option Line → List ℕ
text_of None = []
text_of (Some line) = compact_text (line_data (lifted line))

-- a text of which a line may be
abbrev pub short_text : List ℕ → Result (List ℕ) LineFault
short_text text = if nat_lt 65536 (length text) then Err TooLong else Ok text

-- the text of a line, in its newest version
abbrev pub newest_text : ReaderState → List ℕ → Result (List ℕ) LineFault
newest_text r line = and_then (line_of r line) (λ said. short_text (text_of said))

-- a line that is refused, by its number; it ends the lifted file
abbrev pub stop_line : ℕ → LineFault → List ℕ
stop_line number fault =
    codes "stop line " ++ (decimal number ++ (32 ∷ (decimal (fault_number fault) ++ (32 ∷ (fault_name fault ++ 10 ∷ [])))))

-- what is written of a line of this number
abbrev pub written : ℕ → Result (List ℕ) LineFault → List ℕ
written number (Ok text) = text ++ 10 ∷ []
written number (Err fault) = stop_line number fault

-- the line that is refused, if it is this one, and why
abbrev pub refused : ℕ → Result (List ℕ) LineFault → Option (ℕ × LineFault)
refused number (Ok text) = None
refused number (Err fault) = Some (number, fault)

abbrev pub line_written : ReaderState → List ℕ → List ℕ
line_written r line = written (number_of r line) (newest_text r line)

abbrev pub line_refused : ReaderState → List ℕ → Option (ℕ × LineFault)
line_refused r line = refused (number_of r line) (newest_text r line)

-- ---- all lines

-- nothing follows a line that is refused
abbrev pub unless_refused : Option (ℕ × LineFault) → List ℕ → List ℕ
unless_refused None later = later
unless_refused (Some stop) later = []

abbrev pub first_refused : Option (ℕ × LineFault) → Option (ℕ × LineFault) → Option (ℕ × LineFault)
first_refused None later = later
first_refused (Some stop) later = Some stop

abbrev pub written_from : ReaderState → List (List ℕ) → List ℕ
written_from r [] = []
written_from r (line ∷ lines) =
    line_written r line ++ unless_refused (line_refused r line) (written_from (reader_after r line) lines)

abbrev pub refused_from : ReaderState → List (List ℕ) → Option (ℕ × LineFault)
refused_from r [] = None
refused_from r (line ∷ lines) = first_refused (line_refused r line) (refused_from (reader_after r line) lines)

-- what is written of a file, and its first line that is refused
abbrev pub lifted_file : List ℕ → List ℕ
lifted_file bytes = written_from (first_reader Run) (lines_of bytes)

abbrev pub file_refused : List ℕ → Option (ℕ × LineFault)
file_refused bytes = refused_from (first_reader Run) (lines_of bytes)

-- ---- what a file says

-- what each line says, or why it is refused
abbrev pub said_from : ReaderState → List (List ℕ) → List (Result (Option Line) LineFault)
said_from r [] = []
said_from r (line ∷ lines) = line_of r line ∷ said_from (reader_after r line) lines

abbrev pub newest_said : Result (Option Line) LineFault → Result (Option Line) LineFault
newest_said (Ok said) = Ok (newest said)
newest_said (Err fault) = Err fault

-- a file says what another does, line by line, each line in its newest version
unfoldable pub SaysTheSame : (new old : List ℕ) → Type 0
SaysTheSame new old = said_from (first_reader Run) (lines_of new) ≡ map newest_said (said_from (first_reader Run) (lines_of old))
