-- The numbers that are drawn for the entries of a guild.
use Rattle.std.specs.Prelude.{ℕ, zero, suc, ◌+◌, ◌*◌, ◌/◌, ◌%◌, ◌^◌}

-- x(0), of the guild with this number
unfoldable pub first_number : ℕ → ℕ → ℕ
first_number seed guild = (8 * seed + guild) % 2 ^ 64

-- x(k + 1) from x(k)
unfoldable pub number_after : ℕ → ℕ
number_after x = (x * 6364136223846793005 + 1442695040888963407) % 2 ^ 64

-- x(k)
abbrev pub number : ℕ → ℕ → ℕ → ℕ
number seed guild zero = first_number seed guild
number seed guild (suc k) = number_after (number seed guild k)

-- what is drawn of a number: all but its lowest 33 bits
abbrev pub draw_of : ℕ → ℕ
draw_of x = x / 2 ^ 33

-- what is drawn for entry j
abbrev pub draw : ℕ → ℕ → ℕ → ℕ
draw seed guild j = draw_of (number seed guild (j + 1))
