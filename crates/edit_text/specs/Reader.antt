-- The reader of a file: before its first line, after some lines, and the number of its next line.
use Rattle.std.specs.Prelude.{ℕ, List, [], ◌∷◌, false}
use Rattle.edit_text.specs.declared.line.FileKind.{FileKind}
use Rattle.edit_text.specs.declared.reader_state.ReaderState.{ReaderState}
use Rattle.edit_text.specs.Lines.{reader_after}

-- before the first line of a file of this kind
abbrev pub first_reader : FileKind → ReaderState
first_reader kind = record { kind = kind; lines = 0; stepped = false; guilds = [] }

-- the reader after lines
abbrev pub reader_from : ReaderState → List (List ℕ) → ReaderState
reader_from r [] = r
reader_from r (line ∷ lines) = reader_from (reader_after r line) lines

-- the number of a line that a reader reads next
abbrev pub number_of : ReaderState → List ℕ → ℕ
number_of r line = (reader_after r line).lines
