-- What lines say, lines after lines.
use Rattle.std.proofs.Common.{◌≡◌, ℕ, List, [], ◌∷◌, ◌++◌, Option, Some, None, Result, Ok, Err, refl, sym, ap, ◌∙◌, append-nil}
use Rattle.edit_fields.specs.declared.fault.LineFault.{LineFault}
use Rattle.edit_text.specs.declared.line.FileKind.TheVariants.{Script}
use Rattle.edit_text.specs.declared.line.Line.{Line}
use Rattle.edit_text.specs.declared.reader_state.ReaderState.{ReaderState}
use Rattle.edit_text.specs.Lines.{line_of, reader_after}
use Rattle.edit_text.specs.Reader.{first_reader, reader_from}
use Rattle.file_script.specs.Accepted.{accepted_with, accepted_from, refused_with, refused_from, reader_of, IsWhole, StopsAfter, BeginsWith}

pub reader-more : (xs : List (List ℕ)) (r : ReaderState) (ys : List (List ℕ)) → reader_from r (xs ++ ys) ≡ reader_from (reader_from r xs) ys
reader-more [] r ys = refl
reader-more (x ∷ xs) r ys = reader-more xs (reader_after r x) ys

accepted_after : (o : Result (Option Line) LineFault) (number : ℕ) (later : Option (ℕ × LineFault)) (all front back : List Line) → refused_with number o later ≡ None → (later ≡ None → all ≡ front ++ back)
    → accepted_with o all ≡ accepted_with o front ++ back
accepted_after (Err fault) number later all front back none is = absurd (cc)
accepted_after (Ok None) number later all front back none is = is none
accepted_after (Ok (Some line)) number later all front back none is = ap (λ ls. line ∷ ls) (is none)

refused_after : (o : Result (Option Line) LineFault) (number : ℕ) (later all back : Option (ℕ × LineFault)) → refused_with number o later ≡ None → (later ≡ None → all ≡ back) → refused_with number o all ≡ back
refused_after (Err fault) number later all back none is = absurd (cc)
refused_after (Ok line) number later all back none is = is none

accepted-more : (xs : List (List ℕ)) (r : ReaderState) (ys : List (List ℕ)) → refused_from r xs ≡ None → accepted_from r (xs ++ ys) ≡ accepted_from r xs ++ accepted_from (reader_from r xs) ys
accepted-more [] r ys none = refl
accepted-more (x ∷ xs) r ys none =
    accepted_after (line_of r x) (reader_after r x).lines (refused_from (reader_after r x) xs) (accepted_from (reader_after r x) (xs ++ ys)) (accepted_from (reader_after r x) xs) (accepted_from (reader_from r (x ∷ xs)) ys)
    none (accepted-more xs (reader_after r x) ys)

refused-more : (xs : List (List ℕ)) (r : ReaderState) (ys : List (List ℕ)) → refused_from r xs ≡ None → refused_from r (xs ++ ys) ≡ refused_from (reader_from r xs) ys
refused-more [] r ys none = refl
refused-more (x ∷ xs) r ys none =
    refused_after (line_of r x) (reader_after r x).lines (refused_from (reader_after r x) xs) (refused_from (reader_after r x) (xs ++ ys)) (refused_from (reader_from r (x ∷ xs)) ys)
    none (refused-more xs (reader_after r x) ys)

-- ---- after lines of which none is refused

-- what a line says, as lines
abbrev pub said_by : Option Line → List Line
said_by None = []
said_by (Some line) = line ∷ []

module _ (xs : List (List ℕ)) (given : List Line) (whole : IsWhole xs given) where
  -- more of them
  pub begins_with : (ys : List (List ℕ)) → BeginsWith (xs ++ ys) given
  begins_with ys = (accepted_from (reader_of xs) ys, accepted-more xs (first_reader Script) ys whole.1 ∙ ap (λ ls. ls ++ accepted_from (reader_of xs) ys) whole.0)

  -- one more that is accepted
  pub one_accepted : (line : List ℕ) (said : Option Line) → line_of (reader_of xs) line ≡ Ok said → IsWhole (xs ++ line ∷ []) (given ++ said_by said)
  one_accepted line said is = (
    accepted-more xs (first_reader Script) (line ∷ []) whole.1 ∙ (ap (λ ls. ls ++ accepted_from (reader_of xs) (line ∷ [])) whole.0 ∙ ap (λ ls. given ++ ls) (ap (λ o. accepted_with o []) is ∙ says said)),
    refused-more xs (first_reader Script) (line ∷ []) whole.1 ∙ ap (λ o. refused_with (reader_after (reader_of xs) line).lines o None) is,
  )
    where
      says : (said : Option Line) → accepted_with (Ok said) [] ≡ said_by said
      says None = refl
      says (Some line) = refl

  -- one that is refused, whatever follows it
  pub one_refused : (line : List ℕ) (later : List (List ℕ)) (number : ℕ) (fault : LineFault) → line_of (reader_of xs) line ≡ Err fault → number ≡ (reader_after (reader_of xs) line).lines
      → StopsAfter (xs ++ line ∷ later) given number fault
  one_refused line later number fault is at = (
    accepted-more xs (first_reader Script) (line ∷ later) whole.1
        ∙ (ap (λ ls. ls ++ accepted_from (reader_of xs) (line ∷ later)) whole.0
        ∙ (ap (λ o. given ++ accepted_with o (accepted_from (reader_after (reader_of xs) line) later)) is ∙ append-nil given)),
    refused-more xs (first_reader Script) (line ∷ later) whole.1
        ∙ (ap (λ o. refused_with (reader_after (reader_of xs) line).lines o (refused_from (reader_after (reader_of xs) line) later)) is ∙ ap (λ n. Some (n, fault)) (sym at)),
  )
