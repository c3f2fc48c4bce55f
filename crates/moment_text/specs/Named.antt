-- The moment that a text names.
use Rattle.std.specs.Prelude.{ℕ, zero, suc, ◌+◌, ◌-◌, ◌*◌, ◌%◌, List, Option, Some, None, if◌then◌else◌, slice_index}
use Rattle.std.specs.Str.{bytes_eq}
use Rattle.guild_model.specs.declared.moment.TheConstants.{END_OF_TIME}
use Rattle.moment_text.specs.Text.{time_text}

-- the moment below a limit whose text this is
unfoldable pub moment_below : ℕ → List ℕ → Option ℕ
moment_below zero text = None
moment_below (suc millis) text = if bytes_eq text (time_text millis) then Some millis else moment_below millis text

-- the moment whose text this is
unfoldable pub moment_of : List ℕ → Option ℕ
moment_of text = moment_below END_OF_TIME text

-- ---- numbers by their digits, at their places in such a text

abbrev pub digit_at : List ℕ → ℕ → ℕ
digit_at text index = (slice_index text index - 48) % 10

abbrev pub two_at : List ℕ → ℕ → ℕ
two_at text index = digit_at text index * 10 + digit_at text (index + 1)

abbrev pub year_at : List ℕ → ℕ
year_at text = two_at text 0 * 100 + two_at text 2

abbrev pub milliseconds_at : List ℕ → ℕ
milliseconds_at text = digit_at text 20 * 100 + two_at text 21
