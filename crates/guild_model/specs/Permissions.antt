-- What a member may do in a guild and in its channels, bit by bit (Permissions, Permission Hierarchy
-- and Permission Overwrites).
use Rattle.std.specs.Prelude.{ℕ, Bool, true, false, ◌||◌, ◌&&◌, ◌==◌, List, Option, Some, None, unwrap_or, if◌then◌else◌}
use Rattle.std.specs.List.{list_any}
use Rattle.std.specs.Option.{option_or, option_map_or}
use Rattle.collections.specs.ById.{find_id, has_id}
use Rattle.perm_bits.specs.Bits.{has_bit}
use Rattle.perm_bits.specs.Permissions.{administrator}
use Rattle.guild_model.specs.declared.member.Member.{Member}
use Rattle.guild_model.specs.declared.role.Role.{Role}
use Rattle.guild_model.specs.declared.channel.Channel.{Channel}
use Rattle.guild_model.specs.declared.channel.Overwrite.{Overwrite}
use Rattle.guild_model.specs.declared.channel.Overwrites.{Overwrites}
use Rattle.guild_model.specs.Record.{Record, own_id, role_id, member_id, channel_id}

-- the role of an id has a bit
abbrev pub role_has : List Role → ℕ → ℕ → Bool
role_has roles b id = option_map_or (λ (r : Role). has_bit r.permissions b) (find_id role_id id roles) false

-- @everyone, whose id is the guild's, or a held role has a bit
abbrev pub roles_have : ℕ → List Role → List ℕ → ℕ → Bool
roles_have guild roles held b = role_has roles b guild || list_any (role_has roles b) held

-- some overwrite of a tier allows a bit, or denies it
abbrev pub allows : (Overwrite → Bool) → List Overwrite → ℕ → Bool
allows tier os b = list_any (λ o. tier o && has_bit o.allow b) os

abbrev pub denies : (Overwrite → Bool) → List Overwrite → ℕ → Bool
denies tier os b = list_any (λ o. tier o && has_bit o.deny b) os

-- a tier's answer on a bit, if it names the bit: an allow beats a deny
abbrev pub answer : (Overwrite → Bool) → List Overwrite → ℕ → Option Bool
answer tier os b = if allows tier os b then Some true else (if denies tier os b then Some false else None)

abbrev pub is_of : ℕ → Overwrite → Bool
is_of id o = o.id == id

abbrev pub is_held : List ℕ → Overwrite → Bool
is_held held o = has_id own_id o.id held

-- the answer of the first tier that names a bit, if one does: the member's overwrite, those of its
-- roles, that of @everyone
abbrev pub named : ℕ → Member → Overwrites → ℕ → Option Bool
named guild m os b =
    option_or (answer (is_of m.user.id) os.members b) (option_or (answer (is_held m.roles) os.roles b) (answer (is_of guild) os.roles b))

-- what a member's permissions rest on: the guild's id, owner and roles, and the member
module _ (guild owner : ℕ) (roles : List Role) (m : Member) where
  -- the owner and an administrator may do everything
  abbrev pub may_all : Bool
  may_all = (owner == m.user.id) || roles_have guild roles m.roles administrator

  -- a member has a bit in the guild
  unfoldable pub part_base : ℕ → Bool
  part_base b = may_all || roles_have guild roles m.roles b

  -- a member is granted a bit in a channel with these overwrites
  unfoldable pub part_grants : Overwrites → ℕ → Bool
  part_grants os b = may_all || unwrap_or (named guild m os b) (roles_have guild roles m.roles b)

-- the same in a record, by a member and a channel that may be missing: a stranger may do nothing, and
-- nobody in a channel that is not there
abbrev pub base_of : Record → Option Member → ℕ → Bool
base_of g None b = false
base_of g (Some m) b = part_base g.id g.owner g.roles m b

abbrev pub grants_of : Record → Option Member → Option Channel → ℕ → Bool
grants_of g None c b = false
grants_of g (Some m) None b = false
grants_of g (Some m) (Some c) b = part_grants g.id g.owner g.roles m c.overwrites b

abbrev pub base : Record → ℕ → ℕ → Bool
base g user b = base_of g (find_id member_id user g.members) b

abbrev pub grants : Record → ℕ → ℕ → ℕ → Bool
grants g user channel b = grants_of g (find_id member_id user g.members) (find_id channel_id channel g.channels) b
