-- A lifted file says what the file says.
use Rattle.std.proofs.Common.{◌≡◌, ℕ, List, [], ◌∷◌, ◌++◌, map, Option, Some, None, Result, Ok, Err, refl, ap, ap₂, ◌∙◌, append_assoc}
use Rattle.edit_fields.specs.declared.fault.LineFault.{LineFault}
use Rattle.edit_text.specs.declared.line.FileKind.TheVariants.{Run}
use Rattle.edit_text.specs.declared.line.Line.{Line}
use Rattle.edit_text.specs.declared.reader_state.ReaderState.{ReaderState}
use Rattle.edit_text.specs.Lines.{line_of, after_line, reader_after, counted}
use Rattle.edit_text.specs.Reader.{first_reader, number_of}
use Rattle.edit_text.proofs.AllowedReads.{lifted_noted}
use Rattle.file_lines.specs.Lines.{lines_of}
use Rattle.file_lift.specs.Lifted.{newest_said, written, unless_refused, written_from, lifted_file, said_from, SaysTheSame}
use Rattle.file_lift.specs.Lifting.{KeepsSaying, KeepsSayings}
use Rattle.file_lift.proofs.NoFeeds.{newest_piece}
use Rattle.file_lines.proofs.Fed.{lines_fed}
use Rattle.file_lift.proofs.Laws.{not_refused}

-- a reader keeps the same of both
pub newest_after : (s : Result (Option Line) LineFault) (r : ReaderState) → after_line (newest_said s) r ≡ after_line s r
newest_after (Err fault) r = refl
newest_after (Ok None) r = refl
newest_after (Ok (Some line)) r = ap counted (lifted_noted line r)

-- what is written begins with the text of its first line
first_written : (r : ReaderState) (line : List ℕ) (lines : List (List ℕ)) (keeps : KeepsSaying r line)
    → written_from r (line ∷ lines) ≡ keeps.0 ++ 10 ∷ written_from (reader_after r line) lines
first_written r line lines keeps =
    let later : List ℕ = written_from (reader_after r line) lines in
    ap₂ (λ l o. l ++ unless_refused o later) (ap (written (number_of r line)) keeps.1) (not_refused r line keeps) ∙ append_assoc keeps.0 (10 ∷ []) later

pub says_same : (lines : List (List ℕ)) (r : ReaderState) → KeepsSayings r lines → said_from r (lines_of (written_from r lines)) ≡ map newest_said (said_from r lines)
says_same [] r keeps = refl
says_same (line ∷ lines) r keeps =
    let text : List ℕ = keeps.0.0 in
    let later : List ℕ = written_from (reader_after r line) lines in
    let same : reader_after r text ≡ reader_after r line = ap (λ s. after_line s r) keeps.0.2 ∙ newest_after (line_of r line) r in
    ap (λ l. said_from r (lines_of l)) (first_written r line lines keeps.0)
    ∙ (ap (said_from r) (lines_fed text later (newest_piece r line text keeps.0.1))
    ∙ ap₂ (λ s ss. s ∷ ss) keeps.0.2 (ap (λ q. said_from q (lines_of later)) same ∙ says_same lines (reader_after r line) keeps.1))

pub file_says : (bytes : List ℕ) (lines : List (List ℕ)) → lines_of bytes ≡ lines → KeepsSayings (first_reader Run) lines → SaysTheSame (lifted_file bytes) bytes
unfolding SaysTheSame
file_says bytes lines is keeps = rw is (says_same lines (first_reader Run) keeps)
