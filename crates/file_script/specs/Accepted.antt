-- The lines of a script's file, up to the first that is refused.
use Rattle.std.specs.Prelude.{◌≡◌, ℕ, List, [], ◌∷◌, ◌++◌, Option, Some, None, Result, Ok, Err}
use Rattle.edit_fields.specs.declared.fault.LineFault.{LineFault}
use Rattle.edit_text.specs.declared.line.FileKind.TheVariants.{Script}
use Rattle.edit_text.specs.declared.line.Line.{Line}
use Rattle.edit_text.specs.declared.reader_state.ReaderState.{ReaderState}
use Rattle.edit_text.specs.Lines.{line_of, reader_after}
use Rattle.edit_text.specs.Reader.{first_reader, reader_from}

-- what a line gives, before what later ones give: a blank one nothing, and one that is refused ends all
abbrev pub accepted_with : Result (Option Line) LineFault → List Line → List Line
accepted_with (Err fault) later = []
accepted_with (Ok None) later = later
accepted_with (Ok (Some line)) later = line ∷ later

abbrev pub accepted_from : ReaderState → List (List ℕ) → List Line
accepted_from r [] = []
accepted_from r (line ∷ lines) = accepted_with (line_of r line) (accepted_from (reader_after r line) lines)

-- the first line that is refused, by its number, from 1, with its fault
abbrev pub refused_with : ℕ → Result (Option Line) LineFault → Option (ℕ × LineFault) → Option (ℕ × LineFault)
refused_with number (Err fault) later = Some (number, fault)
refused_with number (Ok line) later = later

abbrev pub refused_from : ReaderState → List (List ℕ) → Option (ℕ × LineFault)
refused_from r [] = None
refused_from r (line ∷ lines) = refused_with (reader_after r line).lines (line_of r line) (refused_from (reader_after r line) lines)

-- ---- of a whole file

abbrev pub reader_of : List (List ℕ) → ReaderState
reader_of lines = reader_from (first_reader Script) lines

-- what the lines before the first that is refused say
abbrev pub accepted : List (List ℕ) → List Line
accepted lines = accepted_from (first_reader Script) lines

abbrev pub refused : List (List ℕ) → Option (ℕ × LineFault)
refused lines = refused_from (first_reader Script) lines

-- no line is refused, and they say this
abbrev pub IsWhole : List (List ℕ) → List Line → Type 0
IsWhole lines said = (accepted lines ≡ said) × (refused lines ≡ None)

-- the line of this number is the first that is refused, for this fault, and those before it say this
abbrev pub StopsAfter : List (List ℕ) → List Line → ℕ → LineFault → Type 0
StopsAfter lines said number fault = (accepted lines ≡ said) × (refused lines ≡ Some (number, fault))

-- what the lines say begins with this
abbrev pub BeginsWith : List (List ℕ) → List Line → Type 0
BeginsWith lines said = (later : List Line) × (accepted lines ≡ said ++ later)
