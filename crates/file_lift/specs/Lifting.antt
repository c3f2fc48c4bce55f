-- What lifting a file leaves in a source and a sink.
use Rattle.std.specs.Prelude.{◌≡◌, ℕ, ◌+◌, ◌<◌, ◌≤◌, List, [], ◌∷◌, ◌++◌, Bool, String, string_bytes, Option as Maybe, Some as Just, None as Nothing, Result, Ok, Err}
use Rattle.std.specs.declared.option.Option.{Option}
use Rattle.std.specs.declared.option.Option.TheVariants.{Some}
use Rattle.std.specs.Io.KnownBytes.{Consumes, IsAtEnd}
use Rattle.gate_outside.specs.Causes.{Rose}
use Rattle.gate_outside.specs.Streams.{Carries, CarriesFront}
use Rattle.gate_outside.specs.declared.faults.Fault.{Fault}
use Rattle.gate_outside.specs.declared.faults.Fault.TheVariants as outside
use Rattle.std.specs.declared.alloc.Global.{Global}
use Rattle.edit_text.specs.declared.line.FileKind.TheVariants.{Run}
use Rattle.edit_text.specs.declared.line.Line.{Line as ALine}
use Rattle.edit_text.specs.declared.reader_state.ReaderState.{ReaderState}
use Rattle.edit_text.specs.Lines.{line_of, reader_after}
use Rattle.edit_text.specs.Reader.{first_reader, reader_from, number_of}
use Rattle.file_lines.specs.Lines.{whole_lines, lines_of}
use Rattle.file_lines.specs.Reads.{HeldBytes, LineIsRead}
use Rattle.file_lift.specs.declared.fault.LiftFault.{LiftFault}
use Rattle.file_lift.specs.declared.fault.LiftFault.TheVariants.{Read, Write, Line, Memory}
use Rattle.file_lift.specs.declared.lifter.Lifter.{Lifter}
use Rattle.file_lift.specs.Lifted.{newest_said, newest_text, line_written, line_refused, written_from, refused_from, lifted_file, file_refused, SaysTheSame}

-- ---- the faults of a source and a sink

abbrev pub read_fault : Fault → LiftFault
read_fault outside.Failed = Read
read_fault outside.Memory = Memory

abbrev pub write_fault : Fault → LiftFault
write_fault outside.Failed = Write
write_fault outside.Memory = Memory

-- ---- a whole file

-- How much of the lifted file was written after these bytes: `All` says that a text was, and `Front` that a front of
-- one was. With `Ok` it is the whole of it, which says what the file says; if the source failed, what is written of the
-- whole lines that were read; after a line that is refused, all that comes before and its line; else a front. The bytes
-- that are left follow those that were read.
abbrev pub Lifts : (left0 left1 : Option (List ℕ)) (before : List ℕ) (All Front : List ℕ → Type 0) → Result (Unit {0}) LiftFault → Type 0
Lifts left0 left1 before All Front (Ok x) =
    (bytes : List ℕ) × Consumes left0 left1 bytes × IsAtEnd left1
    × (file_refused bytes ≡ Nothing) × SaysTheSame (lifted_file bytes) bytes × All (before ++ lifted_file bytes)
Lifts left0 left1 before All Front (Err Read) =
    (bytes : List ℕ) × Consumes left0 left1 bytes
    × (refused_from (first_reader Run) (whole_lines bytes) ≡ Nothing) × All (before ++ written_from (first_reader Run) (whole_lines bytes))
Lifts left0 left1 before All Front (Err (Line number fault)) =
    (bytes : List ℕ) × Consumes left0 left1 bytes
    × ((rest : List ℕ) → left1 ≡ Some rest → (file_refused (bytes ++ rest) ≡ Just (number, fault)) × All (before ++ lifted_file (bytes ++ rest)))
Lifts left0 left1 before All Front (Err Write) =
    (bytes : List ℕ) × Consumes left0 left1 bytes × ((rest : List ℕ) → left1 ≡ Some rest → Front (before ++ lifted_file (bytes ++ rest)))
Lifts left0 left1 before All Front (Err Memory) =
    (bytes : List ℕ) × Consumes left0 left1 bytes × ((rest : List ℕ) → left1 ≡ Some rest → Front (before ++ lifted_file (bytes ++ rest)))

-- a fault of the source or the sink is answered only if its count rose
abbrev pub LiftCause : (read0 read1 write0 write1 : ℕ) → Result (Unit {0}) LiftFault → Type 0
LiftCause read0 read1 write0 write1 (Ok x) = (read1 ≡ read0) × (write1 ≡ write0)
LiftCause read0 read1 write0 write1 (Err Read) = (read0 ≤ read1) × Rose read0 read1 × (write1 ≡ write0)
LiftCause read0 read1 write0 write1 (Err Write) = (read0 ≤ read1) × Rose write0 write1
LiftCause read0 read1 write0 write1 (Err (Line number fault)) = (read1 ≡ read0) × (write1 ≡ write0)
LiftCause read0 read1 write0 write1 (Err Memory) = (read0 ≤ read1) × (write1 ≡ write0)

-- ---- one line

-- a reader takes what is written of the line as the newest version of it
abbrev pub KeepsSaying : ReaderState → List ℕ → Type 0
KeepsSaying r line = (text : List ℕ) × (newest_text r line ≡ Ok text) × (line_of r text ≡ newest_said (line_of r line))

abbrev pub KeepsSayings : ReaderState → List (List ℕ) → Type 0
KeepsSayings r [] = Unit {0}
KeepsSayings r (line ∷ lines) = KeepsSaying r line × KeepsSayings (reader_after r line) lines

-- how a line was read
abbrev pub IsRead : Option (List ℕ) → List ℕ → HeldBytes → Result Bool LiftFault → Type 0
IsRead left bytes held (Ok fed) = LineIsRead 65536 left bytes held (Ok fed)
IsRead left bytes held (Err Read) = LineIsRead 65536 left bytes held (Err outside.Failed)
IsRead left bytes held (Err Write) = ⊥
IsRead left bytes held (Err (Line number fault)) = ⊥
IsRead left bytes held (Err Memory) = Unit {0}

abbrev pub ReadCause : {T : Type 0} → (before now : ℕ) → Result T LiftFault → Type 0
ReadCause before now (Ok x) = now ≡ before
ReadCause before now (Err Read) = (before ≤ now) × Rose before now
ReadCause before now (Err Write) = ⊥
ReadCause before now (Err (Line number fault)) = ⊥
ReadCause before now (Err Memory) = now ≡ before

-- a line more was counted, of which a file has at most a million
abbrev pub CountsOn : (old now : ReaderState) → Type 0
CountsOn old now = (old.lines < now.lines) × (now.lines ≤ 1000000)

-- what the bytes of a line say after the lines before them
abbrev pub IsParsed : ReaderState → List ℕ → ReaderState → Result (Maybe ALine) LiftFault → Type 0
IsParsed r line now (Ok said) = (line_of r line ≡ Ok said) × (now ≡ reader_after r line)
IsParsed r line now (Err Read) = ⊥
IsParsed r line now (Err Write) = ⊥
IsParsed r line now (Err (Line number fault)) = (line_of r line ≡ Err fault) × (number ≡ number_of r line)
IsParsed r line now (Err Memory) = Unit {0}

-- the text of a line in its newest version, or why the line is refused
abbrev pub GivesText : ReaderState → List ℕ → ReaderState → Result (String Global) LiftFault → Type 0
GivesText r line now (Ok text) =
    (newest_text r line ≡ Ok (string_bytes text)) × (line_of r (string_bytes text) ≡ newest_said (line_of r line))
    × (now ≡ reader_after r line) × CountsOn r now
GivesText r line now (Err Read) = ⊥
GivesText r line now (Err Write) = ⊥
GivesText r line now (Err (Line number fault)) = line_refused r line ≡ Just (number, fault)
GivesText r line now (Err Memory) = Unit {0}

-- a line was lifted: with `Ok` it is not refused, and what is written of it went out or waits
abbrev pub LiftsLine : ReaderState → List ℕ → ReaderState → (got0 got1 : Option (List ℕ)) (waits0 waits1 : List ℕ) → Result (Unit {0}) LiftFault → Type 0
LiftsLine r line now got0 got1 waits0 waits1 (Ok x) =
    (now ≡ reader_after r line) × CountsOn r now × KeepsSaying r line × Carries got0 got1 waits1 (waits0 ++ line_written r line)
LiftsLine r line now got0 got1 waits0 waits1 (Err Read) = ⊥
LiftsLine r line now got0 got1 waits0 waits1 (Err (Line number fault)) =
    (line_refused r line ≡ Just (number, fault)) × Carries got0 got1 waits1 (waits0 ++ line_written r line)
LiftsLine r line now got0 got1 waits0 waits1 (Err Write) = CarriesFront got0 got1 waits1 (waits0 ++ line_written r line)
LiftsLine r line now got0 got1 waits0 waits1 (Err Memory) = CarriesFront got0 got1 waits1 (waits0 ++ line_written r line)

abbrev pub WriteCause : (before now : ℕ) → Result (Unit {0}) LiftFault → Type 0
WriteCause before now (Ok x) = now ≡ before
WriteCause before now (Err Read) = ⊥
WriteCause before now (Err Write) = Rose before now
WriteCause before now (Err (Line number fault)) = now ≡ before
WriteCause before now (Err Memory) = now ≡ before

-- ---- between lines

-- Of a source, these bytes were read. Their first lines were lifted, of which none is refused, and what was read past
-- them is ahead.
pub record HasLifted (left0 left1 : Option (List ℕ)) (before : List ℕ) (got0 got1 : Option (List ℕ)) (waits : List ℕ) (k : Lifter) : Type 0 where
  pub bytes : List ℕ
  pub read : Consumes left0 left1 bytes
  pub done : List (List ℕ)
  pub lines : (rest : List ℕ) → lines_of (bytes ++ rest) ≡ done ++ lines_of (k.lines.ahead ++ rest)
  pub whole : (rest : List ℕ) → whole_lines (bytes ++ rest) ≡ done ++ whole_lines (k.lines.ahead ++ rest)
  pub reader : k.reader ≡ reader_from (first_reader Run) done
  pub accepted : refused_from (first_reader Run) done ≡ Nothing
  pub says : KeepsSayings (first_reader Run) done
  pub wrote : Carries got0 got1 waits (before ++ written_from (first_reader Run) done)
