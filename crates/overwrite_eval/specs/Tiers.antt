-- The masks of a tier of overwrites (Permissions, Permission Overwrites).
use Rattle.std.specs.Prelude.{◌≡◌, ℕ, Bool, List}
use Rattle.perm_bits.specs.Bits.{has_bit}
use Rattle.guild_model.specs.declared.channel.Overwrite.{Overwrite}
use Rattle.guild_model.specs.declared.channel.Overwrites.{Overwrites}
use Rattle.guild_model.specs.declared.member.Member.{Member}
use Rattle.guild_model.specs.Permissions.{allows, denies, is_of, is_held}
use Rattle.overwrite_eval.specs.declared.tiers.Tier.{Tier}
use Rattle.overwrite_eval.specs.declared.tiers.Tiers.{Tiers}

-- a tier's masks have the bits that an overwrite of the tier allows or denies
pub record Unites (belongs : Overwrite → Bool) (os : List Overwrite) (tier : Tier) : Type 0 where
  pub allow : (b : ℕ) → has_bit tier.allow b ≡ allows belongs os b
  pub deny : (b : ℕ) → has_bit tier.deny b ≡ denies belongs os b

-- the tiers are those of a channel's overwrites for a member: of @everyone, of held roles, and the member's own
pub record AreOf (guild : ℕ) (m : Member) (os : Overwrites) (tiers : Tiers) : Type 0 where
  pub everyone : Unites (is_of guild) os.roles tiers.everyone
  pub held : Unites (is_held m.roles) os.roles tiers.held
  pub own : Unites (is_of m.user.id) os.members tiers.own
