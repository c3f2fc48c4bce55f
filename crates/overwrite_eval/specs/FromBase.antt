-- What the overwrites of a channel make of a member's base mask (Permissions, Permission Overwrites). A
-- base mask with ADMINISTRATOR is of one that may do everything.
use Rattle.std.specs.Prelude.{ℕ, Bool, ◌||◌, unwrap_or}
use Rattle.perm_bits.specs.Bits.{has_bit}
use Rattle.perm_bits.specs.Permissions.{administrator}
use Rattle.guild_model.specs.declared.member.Member.{Member}
use Rattle.guild_model.specs.declared.channel.Overwrites.{Overwrites}
use Rattle.guild_model.specs.Permissions.{named}

abbrev pub from_base : ℕ → Member → Overwrites → ℕ → ℕ → Bool
from_base guild m os base b = has_bit base administrator || unwrap_or (named guild m os b) (has_bit base b)
