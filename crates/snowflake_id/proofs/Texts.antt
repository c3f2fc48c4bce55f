-- Texts that are ids and texts that are none.
use Rattle.std.proofs.Common.{◌≡◌, ℕ, ◌<◌, ◌^◌, ◌==◌, true, false, List, [], ◌∷◌, length, ap, ◌&&◌, Result, Ok, Err, refl, sym, ◌∙◌, arith, decimal}
use Rattle.std.specs.Str.{all_ascii_digits}
use Rattle.std.specs.Char.{is_ascii_digit}
use Rattle.std.specs.List.{list_all}
use Rattle.std.specs.Str.Parse.{digits_value, ParsesUnsigned}
use Rattle.std.specs.Result.{OkIff}
use Rattle.std.proofs.lemmas.Str.Parse.{IsNumeralModel, numerals_by_value, tells_all_ascii_digits, parse_digits}
use Rattle.std.proofs.lemmas.Fmt.{digits_decimal, digits_value-decimal, decimal_nonempty}
use Rattle.std.proofs.lemmas.Bool.Decides.{nat_tests}
use Rattle.snowflake_id.specs.declared.BadId.{BadId}
use Rattle.snowflake_id.specs.declared.BadId.TheVariants.{Empty, NotDigits, TooLarge}
use Rattle.snowflake_id.specs.Text.{id_within, id_of_text}

numerals : IsNumeralModel (λ ds. all_ascii_digits ds ≡ true) (digits_value 10)
numerals = numerals_by_value (λ ds. all_ascii_digits ds ≡ true) tells_all_ascii_digits

pub digits_are : (s : List ℕ) → list_all is_ascii_digit s ≡ all_ascii_digits s
digits_are [] = refl
digits_are (c ∷ cs) = ap (λ b. is_ascii_digit c && b) (digits_are cs)

pub empty_text : (s : List ℕ) → (length s == 0) ≡ true → id_of_text s ≡ Err Empty
unfolding id_of_text
empty_text s e = rw e refl

pub other_text : (s : List ℕ) → (length s == 0) ≡ false → all_ascii_digits s ≡ false → id_of_text s ≡ Err NotDigits
unfolding id_of_text
other_text s e d = rw (e, d) refl

pub digits_text : (s : List ℕ) → (length s == 0) ≡ false → all_ascii_digits s ≡ true → id_of_text s ≡ id_within (digits_value 10 s)
unfolding id_of_text
digits_text s e d = rw (e, d) refl

-- what `parse` gives, as an id
abbrev pub parsed : {E : Type 0} → Result ℕ E → Result ℕ BadId
parsed (Ok n) = Ok n
parsed (Err e) = Err TooLarge

within : {E : Type 0} (s : List ℕ) (r : Result ℕ E) → (length s == 0) ≡ false → OkIff r ((0 < length s) × (digits_value 10 s < 2 ^ 64)) (digits_value 10 s) → parsed r ≡ id_within (digits_value 10 s)
within s (Ok n) e h = grind (arith, nat_tests, h)
within s (Err x) e h = grind (arith, nat_tests, h)

pub parsed_text : {E : Type 0} (s : List ℕ) (r : Result ℕ E) → (length s == 0) ≡ false → all_ascii_digits s ≡ true → ParsesUnsigned 64 10 s r → parsed r ≡ id_of_text s
parsed_text s r e d h = within s r e (parse_digits numerals 64 s r h d) ∙ sym (digits_text s e d)

within_bound : (m n : ℕ) → m ≡ n → n < 2 ^ 64 → id_within m ≡ Ok n
within_bound m n e h = grind (arith, nat_tests)

not_zero : (n : ℕ) → 0 < n → (n == 0) ≡ false
not_zero n h = grind (arith, nat_tests)

-- The digits of a number below 2^64 are its id.
pub id_of_decimal : (n : ℕ) → n < 2 ^ 64 → id_of_text (decimal n) ≡ Ok n
id_of_decimal n h =
    digits_text (decimal n) (not_zero _ (decimal_nonempty n h)) (digits_decimal numerals n h)
    ∙ within_bound _ n (digits_value-decimal numerals n h) h
