-- What a script's part of a server does.
use Rattle.std.specs.Prelude.{◌≡◌, ℕ, List, ◌++◌, map, false, Option, Result}
use Rattle.std.specs.Io.KnownBytes.{Consumes}
use Rattle.edit_post.specs.Post.{Sender, after_end}
use Rattle.file_script.specs.declared.fault.ScriptFault.{ScriptFault}
use Rattle.file_script.specs.Sends.{HeadIsRead, SendsFile, SendCause}
use Rattle.gate_parts.specs.declared.ending.Ending.{Ending}
use Rattle.gate_parts.specs.declared.ending.Ending.TheVariants.{Ran, Stopped}
use Rattle.gate_parts.specs.Endings.{has_stopped}
use Rattle.gate_parts.specs.Seats.{SeatEnds}
use Rattle.serve_parts.specs.declared.file_part.FilePart.{FilePart}
use Rattle.serve_parts.specs.declared.file_part.FileDone.{FileDone}

module _ {S R : Type 0} (left : S → Option (List ℕ)) (faults : S → ℕ) where
  -- Some bytes of the file were read for its head, and more since. The passes have sent what the file says, as far as the result tells, and then each has ended.
  abbrev pub SendsItsFile : FilePart S R → FileDone S → Result (Unit {0}) ScriptFault → Type 0
  SendsItsFile part done result = (bytes : List ℕ) → HeadIsRead (left part.source) part.script bytes
      → (more : List ℕ) × (sent : List Sender) × Consumes (left part.source) (left done.source) more
      × SendsFile part.index.keys (left done.source) (bytes ++ more) part.passes.items sent result × (done.passes.items ≡ map after_end sent)

  -- The script has sent what its file says if it began, and a read failed exactly if it answers so. If it stopped, nothing was read, and each pass has ended.
  abbrev pub SendsOrStops : FilePart S R → FileDone S → Ending (Result (Unit {0}) ScriptFault) → Type 0
  SendsOrStops part done (Ran result) = SendsItsFile part done result × SendCause part.script.first (faults part.source) (faults done.source) result
  SendsOrStops part done Stopped = (done.source ≡ part.source) × (done.passes.items ≡ map after_end part.passes.items)

  -- what a script's part gives, which never sets the flag
  pub record FileGives (part : FilePart S R) (done : FileDone S) : Type 0 where
    pub seat : SeatEnds false (has_stopped done.ending) part.seat done.seat
    pub sends : SendsOrStops part done done.ending
