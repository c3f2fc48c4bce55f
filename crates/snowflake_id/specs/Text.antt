-- Ids as text (API Reference, Snowflakes).
use Rattle.std.specs.Prelude.{ℕ, ◌^◌, ◌==◌, List, length, nat_lt, if◌then◌else◌, Result, Ok, Err}
use Rattle.std.specs.Str.{all_ascii_digits}
use Rattle.std.specs.Str.Parse.{digits_value}
use Rattle.snowflake_id.specs.declared.BadId.{BadId}
use Rattle.snowflake_id.specs.declared.BadId.TheVariants.{Empty, NotDigits, TooLarge}

-- the id of a number below 2^64
abbrev pub id_within : ℕ → Result ℕ BadId
id_within n = if nat_lt n (2 ^ 64) then Ok n else Err TooLarge

-- the id that a text is: one or more digits, whose value is below 2^64
unfoldable pub id_of_text : List ℕ → Result ℕ BadId
id_of_text text =
    if length text == 0 then Err Empty
    else (if all_ascii_digits text then id_within (digits_value 10 text)
    else Err NotDigits)
