-- What is written of lines, line after line.
use Rattle.std.proofs.Common.{◌≡◌, ℕ, List, [], ◌∷◌, ◌++◌, Option, Some, None, Result, refl, sym, ap, ◌∙◌, append_assoc, append-nil}
use Rattle.json_view.specs.Fields.{and_then}
use Rattle.edit_fields.specs.declared.fault.LineFault.{LineFault}
use Rattle.edit_text.specs.declared.line.Line.{Line}
use Rattle.edit_text.specs.declared.reader_state.ReaderState.{ReaderState}
use Rattle.edit_text.specs.Lines.{line_of, after_line, reader_after}
use Rattle.edit_text.specs.Reader.{reader_from, number_of}
use Rattle.file_lift.specs.Lifted.{text_of, short_text, written, refused, line_written, line_refused, unless_refused, first_refused, written_from, refused_from}
use Rattle.file_lift.specs.Lifting.{KeepsSaying, KeepsSayings}

both_none : (a b : Option (ℕ × LineFault)) → first_refused a b ≡ None → (a ≡ None) × (b ≡ None)
both_none None b e = (refl, e)
both_none (Some stop) b e = absurd (cc)

pub reader-more : (xs : List (List ℕ)) (r : ReaderState) (ys : List (List ℕ)) → reader_from r (xs ++ ys) ≡ reader_from (reader_from r xs) ys
reader-more [] r ys = refl
reader-more (x ∷ xs) r ys = reader-more xs (reader_after r x) ys

pub refused-more : (xs : List (List ℕ)) (r : ReaderState) (ys : List (List ℕ)) → refused_from r xs ≡ None → refused_from r (xs ++ ys) ≡ refused_from (reader_from r xs) ys
refused-more [] r ys e = refl
refused-more (x ∷ xs) r ys e =
    let both = both_none (line_refused r x) (refused_from (reader_after r x) xs) e in
    ap (λ o. first_refused o (refused_from (reader_after r x) (xs ++ ys))) both.0 ∙ refused-more xs (reader_after r x) ys both.1

pub written-more : (xs : List (List ℕ)) (r : ReaderState) (ys : List (List ℕ)) → refused_from r xs ≡ None
    → written_from r (xs ++ ys) ≡ written_from r xs ++ written_from (reader_from r xs) ys
written-more [] r ys e = refl
written-more (x ∷ xs) r ys e =
    let both = both_none (line_refused r x) (refused_from (reader_after r x) xs) e in
    let rest = written-more xs (reader_after r x) ys both.1 in
    ap (λ o. line_written r x ++ unless_refused o (written_from (reader_after r x) (xs ++ ys))) both.0
    ∙ (ap (λ l. line_written r x ++ l) rest
    ∙ (sym (append_assoc (line_written r x) (written_from (reader_after r x) xs) (written_from (reader_from r (x ∷ xs)) ys))
    ∙ ap (λ o. (line_written r x ++ unless_refused o (written_from (reader_after r x) xs)) ++ written_from (reader_from r (x ∷ xs)) ys) (sym both.0)))

pub sayings-more : (xs : List (List ℕ)) (r : ReaderState) (ys : List (List ℕ)) → KeepsSayings r xs → KeepsSayings (reader_from r xs) ys → KeepsSayings r (xs ++ ys)
sayings-more [] r ys first later = later
sayings-more (x ∷ xs) r ys first later = (first.0, sayings-more xs (reader_after r x) ys first.1 later)

-- ---- one line

pub one_written : (r : ReaderState) (line : List ℕ) → written_from r (line ∷ []) ≡ line_written r line
one_written r line = by_refused (line_refused r line)
  where
    by_refused : (o : Option (ℕ × LineFault)) → line_written r line ++ unless_refused o [] ≡ line_written r line
    by_refused None = append-nil (line_written r line)
    by_refused (Some stop) = append-nil (line_written r line)

pub one_refused : (r : ReaderState) (line : List ℕ) → refused_from r (line ∷ []) ≡ line_refused r line
one_refused r line = by_refused (line_refused r line)
  where
    by_refused : (o : Option (ℕ × LineFault)) → first_refused o None ≡ o
    by_refused None = refl
    by_refused (Some stop) = refl

pub not_refused : (r : ReaderState) (line : List ℕ) → KeepsSaying r line → line_refused r line ≡ None
not_refused r line keeps = ap (refused (number_of r line)) keeps.1

-- lines that say the same are lifted the same
pub same_written : (r : ReaderState) (a b : List ℕ) → line_of r a ≡ line_of r b → line_written r a ≡ line_written r b
same_written r a b is = ap (λ (s : Result (Option Line) LineFault). written (after_line s r).lines (and_then s (λ said. short_text (text_of said)))) is

pub same_refused : (r : ReaderState) (a b : List ℕ) → line_of r a ≡ line_of r b → line_refused r a ≡ line_refused r b
same_refused r a b is = ap (λ (s : Result (Option Line) LineFault). refused (after_line s r).lines (and_then s (λ said. short_text (text_of said)))) is
