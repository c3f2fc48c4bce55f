-- What is answered when a user's mask in a channel is asked for.
use Rattle.std.specs.Prelude.{◌≡◌, ◌<◌, ℕ, Bool, false, Option, Some, is_some}
use Rattle.std.specs.Option.{option_map_or}
use Rattle.collections.specs.ById.{find_id, has_id}
use Rattle.perm_bits.specs.Bits.{has_bit}
use Rattle.guild_model.specs.declared.member.Member.{Member}
use Rattle.guild_model.specs.declared.thread.Thread.{Thread}
use Rattle.guild_model.specs.Record.{Record, member_id, channel_id}
use Rattle.guild_model.specs.Permissions.{grants}
use Rattle.guild_model.specs.Sight.{member_sees}

-- a mask exactly if the channel exists, and then with the bits that the user is granted in it
pub record IsMaskIn (s : Record) (user channel : ℕ) (answer : Option ℕ) : Type 0 where
  pub there : is_some answer ≡ has_id channel_id channel s.channels
  pub bits : (mask : ℕ) → answer ≡ Some mask → (b : ℕ) → b < 53 → has_bit mask b ≡ grants s user channel b

-- a user sees a thread, as a member of a record
abbrev pub sees_as : Record → ℕ → Thread → Bool
sees_as s user t = option_map_or (λ (m : Member). member_sees s m t) (find_id member_id user s.members) false
