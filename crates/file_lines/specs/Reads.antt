-- How a source is read line by line.
use Rattle.std.specs.Prelude.{◌≡◌, ℕ, ◌<◌, ◌≤◌, List, [], ◌∷◌, ◌++◌, length, ◌⊎◌, Bool, true, false, Result, Ok, Err}
use Rattle.std.specs.declared.option.Option.{Option}
use Rattle.std.specs.Io.KnownBytes.{Keeps, Consumes, IsAtEnd}
use Rattle.gate_outside.specs.declared.piece.TheConstants.{PIECE_BYTES}
use Rattle.gate_outside.specs.declared.faults.Failed.{Failed as HasFailed}
use Rattle.gate_outside.specs.declared.faults.Fault.{Fault}
use Rattle.gate_outside.specs.declared.faults.Fault.TheVariants.{Failed, Memory}
use Rattle.file_lines.specs.Lines.{IsPiece}

-- what a reader holds: the line that it read last, and the bytes that it read ahead, past that line
pub record HeldBytes : Type 0 where
  pub line : List ℕ
  pub ahead : List ℕ

-- these bytes begin with the line: a line feed follows it, or it is longer than a line may be
abbrev pub BeginsWithLine : ℕ → List ℕ → HeldBytes → Type 0
BeginsWithLine most bytes held = (bytes ≡ held.line ++ 10 ∷ held.ahead) ⊎ ((most < length held.line) × (bytes ≡ held.line ++ held.ahead))

-- What a read of a line leaves, by the bytes that were ahead before with those that were read: a line, the rest of a
-- source that has ended, or what came before a fault. No byte of it is a line feed.
abbrev pub LineIsRead : ℕ → Option (List ℕ) → List ℕ → HeldBytes → Result Bool Fault → Type 0
LineIsRead most left bytes held (Ok true) = IsPiece held.line × BeginsWithLine most bytes held
LineIsRead most left bytes held (Ok false) = IsPiece held.line × (bytes ≡ held.line) × (held.ahead ≡ []) × (length held.line ≤ most) × IsAtEnd left
LineIsRead most left bytes held (Err Failed) = IsPiece held.line × (bytes ≡ held.line) × (held.ahead ≡ [])
LineIsRead most left bytes held (Err Memory) = Unit {0}

-- No byte is read that may wait: without the bytes of one read, the last, those that were read and those that were ahead
-- before have no line feed.
abbrev pub ReadsNoFurther : (before more : List ℕ) → Type 0
ReadsNoFurther before more = (more ≡ []) ⊎ ((wanted : List ℕ) × (last : List ℕ) × (more ≡ wanted ++ last) × (length last ≤ PIECE_BYTES) × IsPiece (before ++ wanted))

-- ---- within one read of a line

-- bytes that are ahead go to the line, up to a line feed or until it is too long, or all of them
abbrev pub LineGrows : ℕ → HeldBytes → HeldBytes → Bool → Type 0
LineGrows most old new true = (piece : List ℕ) × IsPiece piece × (new.line ≡ old.line ++ piece) × ((old.ahead ≡ piece ++ 10 ∷ new.ahead) ⊎ ((most < length new.line) × (old.ahead ≡ piece ++ new.ahead)))
LineGrows most old new false = IsPiece old.ahead × (new.line ≡ old.line ++ old.ahead) × (new.ahead ≡ []) × (length new.line ≤ most)

-- bytes are read only where none is ahead, and none is ahead afterwards only at the end of the source or after a fault
abbrev pub Fills : (left0 left1 : Option (List ℕ)) → (old new : List ℕ) → Result Bool HasFailed → Type 0
Fills left0 left1 old new (Ok true) = (more : List ℕ) × Consumes left0 left1 more × (new ≡ old ++ more) × (0 < length new) × ((more ≡ []) ⊎ ((old ≡ []) × (length more ≤ PIECE_BYTES)))
Fills left0 left1 old new (Ok false) = (old ≡ []) × (new ≡ []) × Consumes left0 left1 [] × IsAtEnd left1
Fills left0 left1 old new (Err failed) = (old ≡ []) × (new ≡ []) × Keeps left0 left1
