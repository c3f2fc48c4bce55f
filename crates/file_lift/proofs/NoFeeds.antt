-- The text of a value has no line feed.
use Rattle.std.proofs.Common.{◌≡◌, ◌≢◌, ℕ, zero, suc, ◌+◌, ◌/◌, ◌%◌, pos, negsuc, List, [], ◌∷◌, ◌++◌, Bool, true, false, cond, ◌||◌, ◌==◌, length, decimal, Option, Some, None, Result, Ok, Err, refl, subst, arith, eqb-true}
use Rattle.std.specs.Prelude.{nat_lt, if◌then◌else◌}
use Rattle.std.specs.Char.{digit_char}
use Rattle.std.specs.Fmt.{digits, digits_onto, digit_glyph}
use Rattle.std.proofs.lemmas.Bool.Decides.{nat_tests}
use Rattle.json.specs.Print.{escape_letter, escape_byte, escape, quoted}
use Rattle.serde_json.specs.Data.{Num, unsigned, negative, float, Data, null, boolean, number, string, array, object, Items, no_items, item, Members, no_members, member}
use Rattle.serde_json.specs.Written.{number_text, comma_if, compact_text, items_text, members_text}
use Rattle.file_lines.specs.Lines.{IsPiece}
use Rattle.edit_fields.specs.declared.fault.LineFault.{LineFault}
use Rattle.edit_fields.specs.declared.fault.LineFault.TheVariants.{TooLong}
use Rattle.json_view.specs.Fields.{and_then}
use Rattle.edit_text.specs.declared.line.Line.{Line}
use Rattle.edit_text.specs.declared.reader_state.ReaderState.{ReaderState}
use Rattle.edit_text.specs.Lines.{line_of}
use Rattle.edit_text.specs.Written.{line_data}
use Rattle.edit_text.specs.Lifted.{lifted}
use Rattle.file_lift.specs.Lifted.{text_of, short_text, newest_text}

no_feed : IsPiece []
no_feed k lt = absurd (omega (arith, lt))

then_piece : (b : ℕ) (xs : List ℕ) → b ≢ 10 → IsPiece xs → IsPiece (b ∷ xs)
then_piece b xs first later zero lt = first
then_piece b xs first later (suc k) lt = later k (omega (arith, lt))

later_bytes : (b : ℕ) (xs : List ℕ) → IsPiece (b ∷ xs) → IsPiece xs
later_bytes b xs h k below = h (suc k) (omega arith)

piece_more : (xs ys : List ℕ) → IsPiece xs → IsPiece ys → IsPiece (xs ++ ys)
piece_more [] ys first later k lt = later k lt
piece_more (b ∷ xs) ys first later zero lt = first zero (omega arith)
piece_more (b ∷ xs) ys first later (suc k) lt = piece_more xs ys (later_bytes b xs first) later k (omega (arith, lt))

-- ---- numbers

glyph_is_none : (d : ℕ) → digit_glyph false d ≢ 10
glyph_is_none d = by_test (nat_lt d 10)
  where
    by_test : (t : Bool) → (if t then 48 + d else 87 + d) ≢ 10
    by_test true e = absurd (omega (arith, e))
    by_test false e = absurd (omega (arith, e))

char_is_none : (d : ℕ) → digit_char d ≢ 10
char_is_none d = by_test (nat_lt d 10)
  where
    by_test : (t : Bool) → cond t (48 + d) (87 + d) ≢ 10
    by_test true e = absurd (omega (arith, e))
    by_test false e = absurd (omega (arith, e))

digits_onto_piece : (k n : ℕ) (later : List ℕ) → IsPiece later → IsPiece (digits_onto k 10 false n later)
digits_onto_piece zero n later h = h
digits_onto_piece (suc k) n later h =
    let more : IsPiece (digit_glyph false (n % 10) ∷ later) = then_piece _ later (glyph_is_none (n % 10)) h in
    by_last (n / 10 == 0) more (digits_onto_piece k (n / 10) (digit_glyph false (n % 10) ∷ later) more)
  where
    by_last : (t : Bool) → IsPiece (digit_glyph false (n % 10) ∷ later) → IsPiece (digits_onto k 10 false (n / 10) (digit_glyph false (n % 10) ∷ later))
        → IsPiece (if t then digit_glyph false (n % 10) ∷ later else digits_onto k 10 false (n / 10) (digit_glyph false (n % 10) ∷ later))
    by_last true one many = one
    by_last false one many = many

decimal_piece : (n : ℕ) → IsPiece (decimal n)
unfolding digits
decimal_piece n = digits_onto_piece 64 n [] no_feed

number_piece : (n : Num) → IsPiece (number_text n)
number_piece (unsigned n) = decimal_piece n
number_piece (negative (pos n)) = decimal_piece n
number_piece (negative (negsuc n)) = then_piece 45 (decimal (suc n)) (omega arith) (decimal_piece (suc n))
number_piece (float x) = no_feed

-- ---- strings

pair_piece : (a b : ℕ) → a ≢ 10 → b ≢ 10 → IsPiece (a ∷ b ∷ [])
pair_piece a b p q = then_piece a (b ∷ []) p (then_piece b [] q no_feed)

code_piece : (a b : ℕ) → a ≢ 10 → b ≢ 10 → IsPiece (92 ∷ 117 ∷ 48 ∷ 48 ∷ a ∷ b ∷ [])
code_piece a b p q =
    then_piece 92 (117 ∷ 48 ∷ 48 ∷ a ∷ b ∷ []) (omega arith) (then_piece 117 (48 ∷ 48 ∷ a ∷ b ∷ []) (omega arith)
    (then_piece 48 (48 ∷ a ∷ b ∷ []) (omega arith) (then_piece 48 (a ∷ b ∷ []) (omega arith) (pair_piece a b p q))))

letter_is_none : (x : ℕ) → escape_letter x ≢ 10
letter_is_none x = by_tests (x == 34) (x == 92) (x == 8) (x == 12) (x == 10) (x == 13) (x == 9) refl refl
  where
    by_tests : (a b c d e f g : Bool) → (x == 34) ≡ a → (x == 92) ≡ b → cond (a || b) x (cond c 98 (cond d 102 (cond e 110 (cond f 114 (cond g 116 0))))) ≢ 10
    by_tests true b c d e f g p q is = absurd (omega (arith, is, eqb-true x 34 p))
    by_tests false true c d e f g p q is = absurd (omega (arith, is, eqb-true x 92 q))
    by_tests false false true d e f g p q is = absurd (omega (arith, is))
    by_tests false false false true e f g p q is = absurd (omega (arith, is))
    by_tests false false false false true f g p q is = absurd (omega (arith, is))
    by_tests false false false false false true g p q is = absurd (omega (arith, is))
    by_tests false false false false false false true p q is = absurd (omega (arith, is))
    by_tests false false false false false false false p q is = absurd (omega (arith, is))

escape_byte_piece : (x : ℕ) → IsPiece (escape_byte x)
unfolding escape_byte
escape_byte_piece x = by_tests (nat_lt 0 (escape_letter x)) (nat_lt x 32) refl
  where
    by_tests : (a b : Bool) → nat_lt x 32 ≡ b
        → IsPiece (cond a (92 ∷ escape_letter x ∷ []) (cond b (92 ∷ 117 ∷ 48 ∷ 48 ∷ digit_char (x / 16) ∷ digit_char (x % 16) ∷ []) (x ∷ [])))
    by_tests true b is = pair_piece 92 (escape_letter x) (omega arith) (letter_is_none x)
    by_tests false true is = code_piece (digit_char (x / 16)) (digit_char (x % 16)) (char_is_none (x / 16)) (char_is_none (x % 16))
    by_tests false false is = then_piece x [] (λ e. absurd (grind (arith, nat_tests, is, e))) no_feed

escape_piece : (s : List ℕ) → IsPiece (escape s)
escape_piece [] = no_feed
escape_piece (x ∷ s) = piece_more (escape_byte x) (escape s) (escape_byte_piece x) (escape_piece s)

quoted_piece : (s : List ℕ) → IsPiece (quoted s)
quoted_piece s = then_piece 34 (escape s ++ 34 ∷ []) (omega arith) (piece_more (escape s) (34 ∷ []) (escape_piece s) (then_piece 34 [] (omega arith) no_feed))

-- ---- values

comma_piece : (later : Bool) → IsPiece (comma_if later)
comma_piece true = then_piece 44 [] (omega arith) no_feed
comma_piece false = no_feed

word_piece : (a b c d : ℕ) (later : List ℕ) → a ≢ 10 → b ≢ 10 → c ≢ 10 → d ≢ 10 → IsPiece later → IsPiece (a ∷ b ∷ c ∷ d ∷ later)
word_piece a b c d later p q r s h = then_piece a (b ∷ c ∷ d ∷ later) p (then_piece b (c ∷ d ∷ later) q (then_piece c (d ∷ later) r (then_piece d later s h)))

mutual
  value_piece : (d : Data) → IsPiece (compact_text d)
  value_piece null = word_piece 110 117 108 108 [] (omega arith) (omega arith) (omega arith) (omega arith) no_feed
  value_piece (boolean true) = word_piece 116 114 117 101 [] (omega arith) (omega arith) (omega arith) (omega arith) no_feed
  value_piece (boolean false) = word_piece 102 97 108 115 (101 ∷ []) (omega arith) (omega arith) (omega arith) (omega arith) (then_piece 101 [] (omega arith) no_feed)
  value_piece (number n) = number_piece n
  value_piece (string s) = quoted_piece s
  value_piece (array ds) = then_piece 91 (items_text false ds) (omega arith) (items_piece false ds)
  value_piece (object ms) = then_piece 123 (members_text false ms) (omega arith) (members_piece false ms)

  items_piece : (later : Bool) (ds : Items) → IsPiece (items_text later ds)
  items_piece later no_items = then_piece 93 [] (omega arith) no_feed
  items_piece later (item d ds) =
      piece_more (comma_if later) (compact_text d ++ items_text true ds) (comma_piece later) (piece_more (compact_text d) (items_text true ds) (value_piece d) (items_piece true ds))

  members_piece : (later : Bool) (ms : Members) → IsPiece (members_text later ms)
  members_piece later no_members = then_piece 125 [] (omega arith) no_feed
  members_piece later (member k d ms) =
      piece_more (comma_if later) (quoted k ++ 58 ∷ (compact_text d ++ members_text true ms)) (comma_piece later)
      (piece_more (quoted k) (58 ∷ (compact_text d ++ members_text true ms)) (quoted_piece k)
      (then_piece 58 (compact_text d ++ members_text true ms) (omega arith) (piece_more (compact_text d) (members_text true ms) (value_piece d) (members_piece true ms))))

-- ---- lines

text_piece : (said : Option Line) → IsPiece (text_of said)
text_piece None = no_feed
text_piece (Some line) = value_piece (line_data (lifted line))

-- what is written of a line has no line feed but its last byte
pub newest_piece : (r : ReaderState) (line text : List ℕ) → newest_text r line ≡ Ok text → IsPiece text
newest_piece r line text is = by_said (line_of r line) is
  where
    by_length : (said : Option Line) (long : Bool) → (if long then Err TooLong else Ok (text_of said)) ≡ Ok text → IsPiece text
    by_length said true e = absurd cc
    by_length said false e = let same : text_of said ≡ text = cc in subst IsPiece same (text_piece said)

    by_said : (s : Result (Option Line) LineFault) → and_then s (λ said. short_text (text_of said)) ≡ Ok text → IsPiece text
    by_said (Err fault) e = absurd cc
    by_said (Ok said) e = by_length said (nat_lt 65536 (length (text_of said))) e
