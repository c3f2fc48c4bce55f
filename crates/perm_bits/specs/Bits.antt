-- A set of permissions as a number, and its bits.
use Rattle.std.specs.Prelude.{ℕ, Bool, ◌==◌}
use Rattle.std.specs.Int.{bit_at}

-- whether a set has the permission of a bit
unfoldable pub has_bit : ℕ → ℕ → Bool
has_bit mask b = bit_at mask b == 1
