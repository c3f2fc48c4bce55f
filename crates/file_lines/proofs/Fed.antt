-- The lines of bytes that begin with a line.
use Rattle.std.proofs.Common.{◌≡◌, ℕ, ◌<◌, List, [], ◌∷◌, ◌++◌, length, sym, ap, ap₂, ◌∙◌, append_assoc}
use Rattle.file_lines.specs.Lines.{whole_from, tail_from, whole_lines, tail, last_line, lines_of, IsPiece}
use Rattle.file_lines.proofs.Lists.{whole-more, tail-more, whole_line, tail_line, whole_part, tail_part, lines_from, lines-more, last_some, Begins, begun}

module _ (line rest : List ℕ) (piece : IsPiece line) where
  -- a line feed ends it
  pub whole_fed : whole_lines (line ++ 10 ∷ rest) ≡ line ∷ whole_lines rest
  whole_fed =
      ap whole_lines (sym (append_assoc line (10 ∷ []) rest))
      ∙ (whole-more (line ++ 10 ∷ []) [] rest
      ∙ ap₂ (λ ls t. ls ++ whole_from t rest) (whole_line [] line piece) (tail_line [] line piece))

  tail_fed : tail (line ++ 10 ∷ rest) ≡ tail rest
  tail_fed =
      ap tail (sym (append_assoc line (10 ∷ []) rest))
      ∙ (tail-more (line ++ 10 ∷ []) [] rest ∙ ap (λ t. tail_from t rest) (tail_line [] line piece))

  pub lines_fed : lines_of (line ++ 10 ∷ rest) ≡ line ∷ lines_of rest
  lines_fed = ap₂ (λ ls t. ls ++ last_line t) whole_fed tail_fed

  -- it has begun
  pub begun_line : 0 < length line → Begins line (lines_of (line ++ rest))
  begun_line some =
      let is : lines_of (line ++ rest) ≡ lines_from line rest =
      lines-more line rest ∙ ap₂ (λ ls t. ls ++ lines_from t rest) (whole_part [] line piece) (tail_part [] line piece) in
      rw is (begun rest line some)

-- it is all
pub whole_none : (line : List ℕ) → IsPiece line → whole_lines line ≡ []
whole_none line piece = whole_part [] line piece

pub lone_line : (line : List ℕ) → IsPiece line → 0 < length line → lines_of line ≡ line ∷ []
lone_line line piece some = ap₂ (λ ls t. ls ++ last_line t) (whole_part [] line piece) (tail_part [] line piece) ∙ last_some line some
