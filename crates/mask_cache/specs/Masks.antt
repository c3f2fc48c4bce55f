-- The masks of a user in a guild.
use Rattle.std.specs.Prelude.{◌≡◌, ◌<◌, ℕ, List, Option, option_map}
use Rattle.collections.specs.ById.{find_id, put_id}
use Rattle.perm_bits.specs.Bits.{has_bit}
use Rattle.guild_model.specs.Record.{Record}
use Rattle.guild_model.specs.Permissions.{base as base_has, grants}
use Rattle.overwrite_eval.specs.MaskIn.{IsMaskIn}
use Rattle.mask_cache.specs.declared.channel_mask.ChannelMask.{ChannelMask}

-- what is kept of them: the user's base mask, and a mask for each channel
pub record UserMasks : Type 0 where
  pub user : ℕ
  pub base : ℕ
  pub channels : List ChannelMask

abbrev pub masked_channel : ChannelMask → ℕ
masked_channel m = m.channel

abbrev pub mask_of : ChannelMask → ℕ
mask_of m = m.mask

-- the mask that is kept of a channel, if one is
abbrev pub mask_in : UserMasks → ℕ → Option ℕ
mask_in m channel = option_map mask_of (find_id masked_channel channel m.channels)

-- what is kept are the masks of a user on a record: what the user may do in the guild, and in each of
-- its channels
pub record MasksOf (s : Record) (user : ℕ) (m : UserMasks) : Type 0 where
  pub whose : m.user ≡ user
  pub base : (b : ℕ) → b < 53 → has_bit m.base b ≡ base_has s user b
  pub channels : (channel : ℕ) → IsMaskIn s user channel (mask_in m channel)

-- the mask in one channel has become what the user may do in it
pub record HasSet (s : Record) (channel : ℕ) (was is : UserMasks) : Type 0 where
  pub mask : ℕ
  pub bits : (b : ℕ) → b < 53 → has_bit mask b ≡ grants s was.user channel b
  pub set : is ≡ record was {
    channels = put_id masked_channel (record { channel = channel; mask = mask }) was.channels;
  }
