-- The lines among bytes, as more bytes come.
use Rattle.std.proofs.Common.{◌≡◌, ◌≢◌, ℕ, ◌<◌, suc, List, [], ◌∷◌, ◌++◌, Bool, true, false, length, refl, sym, ap, ◌∙◌, append_assoc, append-nil, length-append, arith}
use Rattle.std.specs.Prelude.{◌==◌, if◌then◌else◌}
use Rattle.std.proofs.lemmas.Bool.Decides.{nat_tests}
use Rattle.file_lines.specs.Lines.{whole_from, tail_from, whole_lines, tail, last_line, lines_of, IsPiece}

pub whole-more : (xs part ys : List ℕ) → whole_from part (xs ++ ys) ≡ whole_from part xs ++ whole_from (tail_from part xs) ys
whole-more [] part ys = refl
whole-more (b ∷ xs) part ys = by_feed (b == 10) (λ p. whole-more xs p ys)
  where
    by_feed : (t : Bool) → ((p : List ℕ) → whole_from p (xs ++ ys) ≡ whole_from p xs ++ whole_from (tail_from p xs) ys)
        → (if t then part ∷ whole_from [] (xs ++ ys) else whole_from (part ++ b ∷ []) (xs ++ ys))
        ≡ (if t then part ∷ whole_from [] xs else whole_from (part ++ b ∷ []) xs) ++ whole_from (if t then tail_from [] xs else tail_from (part ++ b ∷ []) xs) ys
    by_feed true rest = ap (λ ls. part ∷ ls) (rest [])
    by_feed false rest = rest (part ++ b ∷ [])

pub tail-more : (xs part ys : List ℕ) → tail_from part (xs ++ ys) ≡ tail_from (tail_from part xs) ys
tail-more [] part ys = refl
tail-more (b ∷ xs) part ys = by_feed (b == 10) (λ p. tail-more xs p ys)
  where
    by_feed : (t : Bool) → ((p : List ℕ) → tail_from p (xs ++ ys) ≡ tail_from (tail_from p xs) ys)
        → (if t then tail_from [] (xs ++ ys) else tail_from (part ++ b ∷ []) (xs ++ ys)) ≡ tail_from (if t then tail_from [] xs else tail_from (part ++ b ∷ []) xs) ys
    by_feed true rest = rest []
    by_feed false rest = rest (part ++ b ∷ [])

-- ---- a piece of a line

first_byte : (b : ℕ) (xs : List ℕ) → IsPiece (b ∷ xs) → (b == 10) ≡ false
first_byte b xs h = let differs : b ≢ 10 = h 0 (omega arith) in grind (arith, nat_tests, differs)

pub later_bytes : (b : ℕ) (xs : List ℕ) → IsPiece (b ∷ xs) → IsPiece xs
later_bytes b xs h k below = h (suc k) (omega arith)

whole_piece : (xs part ys : List ℕ) → IsPiece xs → whole_from part (xs ++ ys) ≡ whole_from (part ++ xs) ys
whole_piece [] part ys h = ap (λ l. whole_from l ys) (sym (append-nil part))
whole_piece (b ∷ xs) part ys h =
    ap (λ t. if t then part ∷ whole_from [] (xs ++ ys) else whole_from (part ++ b ∷ []) (xs ++ ys)) (first_byte b xs h)
    ∙ (whole_piece xs (part ++ b ∷ []) ys (later_bytes b xs h) ∙ ap (λ l. whole_from l ys) (append_assoc part (b ∷ []) xs))

tail_piece : (xs part ys : List ℕ) → IsPiece xs → tail_from part (xs ++ ys) ≡ tail_from (part ++ xs) ys
tail_piece [] part ys h = ap (λ l. tail_from l ys) (sym (append-nil part))
tail_piece (b ∷ xs) part ys h =
    ap (λ t. if t then tail_from [] (xs ++ ys) else tail_from (part ++ b ∷ []) (xs ++ ys)) (first_byte b xs h)
    ∙ (tail_piece xs (part ++ b ∷ []) ys (later_bytes b xs h) ∙ ap (λ l. tail_from l ys) (append_assoc part (b ∷ []) xs))

-- the line ends with it
pub whole_line : (bytes piece : List ℕ) → IsPiece piece → whole_lines (bytes ++ (piece ++ 10 ∷ [])) ≡ whole_lines bytes ++ (tail bytes ++ piece) ∷ []
whole_line bytes piece h = whole-more bytes [] (piece ++ 10 ∷ []) ∙ ap (λ ls. whole_lines bytes ++ ls) (whole_piece piece (tail bytes) (10 ∷ []) h)

pub tail_line : (bytes piece : List ℕ) → IsPiece piece → tail (bytes ++ (piece ++ 10 ∷ [])) ≡ []
tail_line bytes piece h = tail-more bytes [] (piece ++ 10 ∷ []) ∙ tail_piece piece (tail bytes) (10 ∷ []) h

-- the line goes on after it
pub whole_part : (bytes piece : List ℕ) → IsPiece piece → whole_lines (bytes ++ piece) ≡ whole_lines bytes
whole_part bytes piece h =
    whole-more bytes [] piece ∙ (ap (λ l. whole_lines bytes ++ whole_from (tail bytes) l) (sym (append-nil piece))
    ∙ (ap (λ ls. whole_lines bytes ++ ls) (whole_piece piece (tail bytes) [] h) ∙ append-nil (whole_lines bytes)))

pub tail_part : (bytes piece : List ℕ) → IsPiece piece → tail (bytes ++ piece) ≡ tail bytes ++ piece
tail_part bytes piece h = tail-more bytes [] piece ∙ (ap (tail_from (tail bytes)) (sym (append-nil piece)) ∙ tail_piece piece (tail bytes) [] h)

-- ---- all lines

-- the lines of these bytes after part of the first
abbrev pub lines_from : List ℕ → List ℕ → List (List ℕ)
lines_from part bytes = whole_from part bytes ++ last_line (tail_from part bytes)

pub lines-more : (bytes rest : List ℕ) → lines_of (bytes ++ rest) ≡ whole_lines bytes ++ lines_from (tail bytes) rest
lines-more bytes rest =
    ap (λ ls. ls ++ last_line (tail (bytes ++ rest))) (whole-more bytes [] rest)
    ∙ (ap (λ t. (whole_lines bytes ++ whole_from (tail bytes) rest) ++ last_line t) (tail-more bytes [] rest)
    ∙ append_assoc (whole_lines bytes) (whole_from (tail bytes) rest) (last_line (tail_from (tail bytes) rest)))

pub last_some : (part : List ℕ) → 0 < length part → last_line part ≡ part ∷ []
last_some [] h = absurd (omega arith)
last_some (b ∷ part) h = refl

-- a line that has begun is a front of the first line
pub record Begins (part : List ℕ) (lines : List (List ℕ)) : Type 0 where
  pub more : List ℕ
  pub later : List (List ℕ)
  pub is : lines ≡ (part ++ more) ∷ later

longer : (part : List ℕ) (b : ℕ) → 0 < length (part ++ b ∷ [])
longer part b = simp length-append (omega arith)

pub begun : (rest part : List ℕ) → 0 < length part → Begins part (lines_from part rest)
begun [] part h = record { more = []; later = []; is = last_some part h ∙ ap (λ l. l ∷ []) (sym (append-nil part)) }
begun (c ∷ rest) part h = by_feed (c == 10) (begun rest (part ++ c ∷ []) (longer part c))
  where
    by_feed : (t : Bool) → Begins (part ++ c ∷ []) (lines_from (part ++ c ∷ []) rest)
        → Begins part ((if t then part ∷ whole_from [] rest else whole_from (part ++ c ∷ []) rest) ++ last_line (if t then tail_from [] rest else tail_from (part ++ c ∷ []) rest))
    by_feed true later = record { more = []; later = lines_from [] rest; is = ap (λ l. l ∷ lines_from [] rest) (sym (append-nil part)) }
    by_feed false later = record { more = c ∷ later.more; later = later.later; is = later.is ∙ ap (λ l. l ∷ later.later) (append_assoc part (c ∷ []) later.more) }
