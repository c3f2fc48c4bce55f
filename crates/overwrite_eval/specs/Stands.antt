-- For whom a standing answers masks.
use Rattle.std.specs.Prelude.{◌≡◌, ℕ, Some}
use Rattle.collections.specs.ById.{find_id}
use Rattle.guild_model.specs.declared.member.Member.{Member}
use Rattle.guild_model.specs.Record.{Record, member_id}
use Rattle.guild_model.specs.Sight.{Standing, standing}

-- it is that of a user's own member in a record
pub record IsStandingOf (s : Record) (user : ℕ) (st : Standing) : Type 0 where
  pub me : Member
  pub found : find_id member_id user s.members ≡ Some me
  pub is : st ≡ standing s me
