-- The mask in a channel from the base mask, read as the definitions.
use Rattle.std.proofs.Common.{◌≡◌, ◌<◌, ℕ, Bool, true, false, List, Option, Some, None, arith, refl, ap, sym, ◌∙◌}
use Rattle.std.specs.Prelude.{◌||◌, ◌==◌, unwrap_or}
use Rattle.std.specs.Option.{option_map_or}
use Rattle.collections.specs.ById.{find_id}
use Rattle.perm_bits.specs.Bits.{has_bit}
use Rattle.perm_bits.specs.Permissions.{administrator}
use Rattle.guild_model.specs.declared.member.Member.{Member}
use Rattle.guild_model.specs.declared.role.Role.{Role}
use Rattle.guild_model.specs.declared.channel.Channel.{Channel}
use Rattle.guild_model.specs.declared.channel.Overwrites.{Overwrites}
use Rattle.guild_model.specs.Record.{Record, member_id, channel_id}
use Rattle.guild_model.specs.Permissions.{named, roles_have, part_base, part_grants, base, base_of, grants, grants_of}
use Rattle.overwrite_eval.specs.FromBase.{from_base}
use Rattle.guild_model.specs.Sight.{Standing, standing, granted, granted_in}

-- a base mask has ADMINISTRATOR exactly where its member may do all
lifts : (owner admin held base_admin base : Bool) (by_tiers : Option Bool) → base_admin ≡ ((owner || admin) || admin) → base ≡ ((owner || admin) || held)
    → (base_admin || unwrap_or by_tiers base) ≡ ((owner || admin) || unwrap_or by_tiers held)
lifts true admin held base_admin base by_tiers e is = rw e refl
lifts false true held base_admin base by_tiers e is = rw e refl
lifts false false held base_admin base by_tiers e is = rw (e, is) refl

pub grants_from_base : (guild owner : ℕ) (roles : List Role) (m : Member) (os : Overwrites) (base : ℕ)
    → ((b : ℕ) → b < 53 → has_bit base b ≡ part_base guild owner roles m b)
    → (b : ℕ) → b < 53 → from_base guild m os base b ≡ part_grants guild owner roles m os b
unfolding part_base part_grants
grants_from_base guild owner roles m os base is b below =
    lifts (owner == m.user.id) (roles_have guild roles m.roles administrator) (roles_have guild roles m.roles b) (has_bit base administrator) (has_bit base b)
    (named guild m os b) (is administrator (omega arith)) (is b below)

pub granted_found : (s : Standing) (channel : ℕ) (c : Channel) (b : ℕ) → find_id channel_id channel s.channels ≡ Some c → granted s channel b ≡ part_grants s.guild s.owner s.roles s.me c.overwrites b
unfolding granted
granted_found s channel c b found = ap (granted_in s b) found

pub granted_missing : (s : Standing) (channel b : ℕ) → find_id channel_id channel s.channels ≡ None → granted s channel b ≡ false
unfolding granted
granted_missing s channel b missing = ap (granted_in s b) missing

pub granted_from_base : (s : Standing) (channel : ℕ) (c : Channel) (base : ℕ) → find_id channel_id channel s.channels ≡ Some c
    → ((b : ℕ) → b < 53 → has_bit base b ≡ part_base s.guild s.owner s.roles s.me b)
    → (b : ℕ) → b < 53 → from_base s.guild s.me c.overwrites base b ≡ granted s channel b
granted_from_base s channel c base found is b below = grants_from_base s.guild s.owner s.roles s.me c.overwrites base is b below ∙ sym (granted_found s channel c b found)

in_record : (g : Record) (m : Member) (c : Option Channel) (b : ℕ) → granted_in (standing g m) b c ≡ grants_of g (Some m) c b
in_record g m None b = refl
in_record g m (Some c) b = refl

pub granted_member : (g : Record) (user channel : ℕ) (m : Member) (b : ℕ) → find_id member_id user g.members ≡ Some m → granted (standing g m) channel b ≡ grants g user channel b
unfolding granted
granted_member g user channel m b found =
    in_record g m (find_id channel_id channel g.channels) b ∙ ap (λ o. grants_of g o (find_id channel_id channel g.channels) b) (sym found)

sight_in_record : (g : Record) (channel b : ℕ) (m : Option Member) → option_map_or (λ (m : Member). granted (standing g m) channel b) m false ≡ grants_of g m (find_id channel_id channel g.channels) b
unfolding granted
sight_in_record g channel b None = refl
sight_in_record g channel b (Some m) = in_record g m (find_id channel_id channel g.channels) b

pub granted_user : (g : Record) (user channel b : ℕ) → option_map_or (λ (m : Member). granted (standing g m) channel b) (find_id member_id user g.members) false ≡ grants g user channel b
granted_user g user channel b = sight_in_record g channel b (find_id member_id user g.members)

pub grants_from : (g : Record) (user channel guild : ℕ) (m : Member) (c : Channel) (mask : ℕ) → g.id ≡ guild → find_id member_id user g.members ≡ Some m → find_id channel_id channel g.channels ≡ Some c
    → ((b : ℕ) → b < 53 → has_bit mask b ≡ base g user b)
    → (b : ℕ) → b < 53 → from_base guild m c.overwrites mask b ≡ grants g user channel b
grants_from g user channel guild m c mask same member found is b below =
    rw (← same)
    (granted_from_base (standing g m) channel c mask found (λ b below. is b below ∙ ap (λ o. base_of g o b) member) b below ∙ granted_member g user channel m b member)
