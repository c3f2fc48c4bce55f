-- What a member may do rests, of the member, on its user and its held roles alone, and of the roles on
-- what @everyone and the held ones have.
use Rattle.std.proofs.Common.{◌≡◌, ℕ, Bool, false, ◌||◌, List, [], ◌∷◌, Option, Some, if◌then◌else◌, refl, sym, ap, ◌∙◌, arith}
use Rattle.std.specs.Prelude.{◌==◌, is_some, unwrap_or}
use Rattle.std.specs.List.{list_any}
use Rattle.std.specs.Option.{option_or, option_map_or}
use Rattle.std.proofs.lemmas.Bool.Decides.{nat_tests}
use Rattle.collections.specs.ById.{find_id, has_id, put_id}
use Rattle.collections.proofs.Finds.{find-put}
use Rattle.perm_bits.specs.Bits.{has_bit}
use Rattle.perm_bits.specs.Permissions.{administrator}
use Rattle.guild_model.specs.declared.member.Member.{Member}
use Rattle.guild_model.specs.declared.role.Role.{Role}
use Rattle.guild_model.specs.declared.channel.Overwrites.{Overwrites}
use Rattle.guild_model.specs.Record.{own_id, role_id}
use Rattle.guild_model.specs.Permissions.{role_has, roles_have, answer, is_of, is_held, part_base, part_grants}

-- the answer of the first tier that names a bit
abbrev by_tiers : ℕ → ℕ → List ℕ → Overwrites → ℕ → Option Bool
by_tiers guild user held os b = option_or (answer (is_of user) os.members b) (option_or (answer (is_held held) os.roles b) (answer (is_of guild) os.roles b))

-- the same by the owner's id, what the roles have, and the user's id with the held roles
abbrev base_by : ℕ → ℕ → (ℕ → Bool) → ℕ → Bool
base_by owner user have b = ((owner == user) || have administrator) || have b

abbrev grants_by : ℕ → ℕ → ℕ → List ℕ → (ℕ → Bool) → Overwrites → ℕ → Bool
grants_by guild owner user held have os b = ((owner == user) || have administrator) || unwrap_or (by_tiers guild user held os b) (have b)

base-by : (guild owner : ℕ) (roles : List Role) (m : Member) (b : ℕ) → part_base guild owner roles m b ≡ base_by owner m.user.id (roles_have guild roles m.roles) b
unfolding part_base
base-by guild owner roles m b = refl

grants-by : (guild owner : ℕ) (roles : List Role) (m : Member) (os : Overwrites) (b : ℕ) → part_grants guild owner roles m os b ≡ grants_by guild owner m.user.id m.roles (roles_have guild roles m.roles) os b
unfolding part_grants
grants-by guild owner roles m os b = refl

-- a member that is the same user with the same roles
module _ (guild owner : ℕ) (roles : List Role) (m n : Member) (user : n.user.id ≡ m.user.id) (held : n.roles ≡ m.roles) where
  pub base-member : (b : ℕ) → part_base guild owner roles n b ≡ part_base guild owner roles m b
  base-member b =
      base-by guild owner roles n b
      ∙ (ap (λ (u : ℕ). base_by owner u (roles_have guild roles n.roles) b) user
      ∙ (ap (λ (rs : List ℕ). base_by owner m.user.id (roles_have guild roles rs) b) held
      ∙ sym (base-by guild owner roles m b)))

  pub grants-member : (os : Overwrites) (b : ℕ) → part_grants guild owner roles n os b ≡ part_grants guild owner roles m os b
  grants-member os b =
      grants-by guild owner roles n os b
      ∙ (ap (λ (u : ℕ). grants_by guild owner u n.roles (roles_have guild roles n.roles) os b) user
      ∙ (ap (λ (rs : List ℕ). grants_by guild owner m.user.id rs (roles_have guild roles rs) os b) held
      ∙ sym (grants-by guild owner roles m os b)))

-- a role that is not held, and is not @everyone, gives nothing
role-elsewhere : (r : Role) (roles : List Role) (b id : ℕ) → (r.id == id) ≡ false → role_has (put_id role_id r roles) b id ≡ role_has roles b id
role-elsewhere r roles b id other =
    ap (λ o. option_map_or (λ (r : Role). has_bit r.permissions b) o false) (find-put role_id r id roles ∙ ap (λ c. if c then Some r else find_id role_id id roles) other)

not-first : (r id : ℕ) (rest : Option ℕ) → is_some (if id == r then Some id else rest) ≡ false → ((r == id) ≡ false) × (is_some rest ≡ false)
not-first r id rest none = grind (arith, nat_tests)

held-alike : (r : Role) (roles : List Role) (b : ℕ) (held : List ℕ) → has_id own_id r.id held ≡ false → list_any (role_has (put_id role_id r roles) b) held ≡ list_any (role_has roles b) held
held-alike r roles b [] none = refl
held-alike r roles b (id ∷ ids) none =
    let others = not-first r.id id (find_id own_id r.id ids) none in
    ap (λ c. c || list_any (role_has (put_id role_id r roles) b) ids) (role-elsewhere r roles b id others.0) ∙ ap (λ c. role_has roles b id || c) (held-alike r roles b ids others.1)

module _ (guild owner : ℕ) (r : Role) (roles : List Role) (m : Member) (other : (r.id == guild) ≡ false) (none : has_id own_id r.id m.roles ≡ false) where
  roles-alike : (b : ℕ) → roles_have guild (put_id role_id r roles) m.roles b ≡ roles_have guild roles m.roles b
  roles-alike b =
      ap (λ c. c || list_any (role_has (put_id role_id r roles) b) m.roles) (role-elsewhere r roles b guild other) ∙ ap (λ c. role_has roles b guild || c) (held-alike r roles b m.roles none)

  pub base-role : (b : ℕ) → part_base guild owner (put_id role_id r roles) m b ≡ part_base guild owner roles m b
  base-role b =
      base-by guild owner (put_id role_id r roles) m b
      ∙ (ap (λ c. ((owner == m.user.id) || c) || roles_have guild (put_id role_id r roles) m.roles b) (roles-alike administrator)
      ∙ (ap (λ c. ((owner == m.user.id) || roles_have guild roles m.roles administrator) || c) (roles-alike b)
      ∙ sym (base-by guild owner roles m b)))

  pub grants-role : (os : Overwrites) (b : ℕ) → part_grants guild owner (put_id role_id r roles) m os b ≡ part_grants guild owner roles m os b
  grants-role os b =
      grants-by guild owner (put_id role_id r roles) m os b
      ∙ (ap (λ c. ((owner == m.user.id) || c) || unwrap_or (by_tiers guild m.user.id m.roles os b) (roles_have guild (put_id role_id r roles) m.roles b)) (roles-alike administrator)
      ∙ (ap (λ c. ((owner == m.user.id) || roles_have guild roles m.roles administrator) || unwrap_or (by_tiers guild m.user.id m.roles os b) c) (roles-alike b)
      ∙ sym (grants-by guild owner roles m os b)))
