-- Changes of a guild that leave what a member is granted in a channel.
use Rattle.std.proofs.Common.{◌≡◌, ℕ, Bool, true, false, ◌||◌, List, [], ◌∷◌, map, Option, Some, None, if◌then◌else◌, refl, sym, ap, ◌∙◌, arith}
use Rattle.std.specs.Prelude.{◌==◌, is_some, option_map, unwrap_or}
use Rattle.std.specs.List.{list_any}
use Rattle.std.specs.Option.{option_or, option_map_or}
use Rattle.std.proofs.lemmas.Bool.Decides.{nat_tests}
use Rattle.collections.specs.ById.{find_id, has_id, put_id, changed_id, without_id}
use Rattle.collections.proofs.Finds.{find-put, find-changed, find-without, find-map}
use Rattle.perm_bits.specs.Bits.{has_bit}
use Rattle.perm_bits.specs.Permissions.{administrator}
use Rattle.guild_model.specs.declared.member.Member.{Member}
use Rattle.guild_model.specs.declared.role.Role.{Role}
use Rattle.guild_model.specs.declared.channel.Channel.{Channel}
use Rattle.guild_model.specs.declared.channel.Overwrites.{Overwrites}
use Rattle.guild_model.specs.Record.{own_id, role_id, channel_id}
use Rattle.guild_model.specs.Permissions.{role_has, roles_have, answer, is_of, is_held, part_grants}
use Rattle.guild_model.specs.Sight.{Standing, granted, granted_in}

-- the answer of the first tier that names a bit
abbrev by_tiers : ℕ → ℕ → List ℕ → Overwrites → ℕ → Option Bool
by_tiers guild user held os b = option_or (answer (is_of user) os.members b) (option_or (answer (is_held held) os.roles b) (answer (is_of guild) os.roles b))

-- what is granted rests of a member on its user's id and the held roles alone
abbrev by_user : ℕ → ℕ → List Role → ℕ → List ℕ → Overwrites → ℕ → Bool
by_user guild owner roles user held os b =
    ((owner == user) || roles_have guild roles held administrator)
    || unwrap_or (by_tiers guild user held os b) (roles_have guild roles held b)

granted-by_user : (guild owner : ℕ) (roles : List Role) (m : Member) (os : Overwrites) (b : ℕ) → part_grants guild owner roles m os b ≡ by_user guild owner roles m.user.id m.roles os b
unfolding part_grants
granted-by_user guild owner roles m os b = refl

pub grants-member : (guild owner : ℕ) (roles : List Role) (m n : Member) (os : Overwrites) (b : ℕ) → n.user.id ≡ m.user.id → n.roles ≡ m.roles → part_grants guild owner roles n os b ≡ part_grants guild owner roles m os b
grants-member guild owner roles m n os b user held =
    granted-by_user guild owner roles n os b
    ∙ (ap (λ (u : ℕ). by_user guild owner roles u n.roles os b) user
    ∙ (ap (λ (rs : List ℕ). by_user guild owner roles m.user.id rs os b) held
    ∙ sym (granted-by_user guild owner roles m os b)))

-- a role that is not held, and is not @everyone, gives nothing
role-elsewhere : (r : Role) (roles : List Role) (b id : ℕ) → (r.id == id) ≡ false → role_has (put_id role_id r roles) b id ≡ role_has roles b id
role-elsewhere r roles b id other =
    ap (λ o. option_map_or (λ (r : Role). has_bit r.permissions b) o false) (find-put role_id r id roles ∙ ap (λ c. if c then Some r else find_id role_id id roles) other)

not-first : (r id : ℕ) (rest : Option ℕ) → is_some (if id == r then Some id else rest) ≡ false → ((r == id) ≡ false) × (is_some rest ≡ false)
not-first r id rest none = grind (arith, nat_tests)

held-alike : (r : Role) (roles : List Role) (b : ℕ) (held : List ℕ) → has_id own_id r.id held ≡ false → list_any (role_has (put_id role_id r roles) b) held ≡ list_any (role_has roles b) held
held-alike r roles b [] none = refl
held-alike r roles b (id ∷ ids) none =
    let others = not-first r.id id (find_id own_id r.id ids) none in
    ap (λ c. c || list_any (role_has (put_id role_id r roles) b) ids) (role-elsewhere r roles b id others.0) ∙ ap (λ c. role_has roles b id || c) (held-alike r roles b ids others.1)

roles-alike : (guild : ℕ) (r : Role) (roles : List Role) (held : List ℕ) (b : ℕ) → (r.id == guild) ≡ false → has_id own_id r.id held ≡ false → roles_have guild (put_id role_id r roles) held b ≡ roles_have guild roles held b
roles-alike guild r roles held b other none =
    ap (λ c. c || list_any (role_has (put_id role_id r roles) b) held) (role-elsewhere r roles b guild other) ∙ ap (λ c. role_has roles b guild || c) (held-alike r roles b held none)

pub grants-role : (guild owner : ℕ) (r : Role) (roles : List Role) (m : Member) (os : Overwrites) (b : ℕ) → (r.id == guild) ≡ false → has_id own_id r.id m.roles ≡ false
    → part_grants guild owner (put_id role_id r roles) m os b ≡ part_grants guild owner roles m os b
grants-role guild owner r roles m os b other none =
    granted-by_user guild owner (put_id role_id r roles) m os b
    ∙ (ap (λ c. ((owner == m.user.id) || c) || unwrap_or (by_tiers guild m.user.id m.roles os b) (roles_have guild (put_id role_id r roles) m.roles b)) (roles-alike guild r roles m.roles administrator other none)
    ∙ (ap (λ c. ((owner == m.user.id) || roles_have guild roles m.roles administrator) || unwrap_or (by_tiers guild m.user.id m.roles os b) c) (roles-alike guild r roles m.roles b other none)
    ∙ sym (granted-by_user guild owner roles m os b)))

-- in a channel, and nothing in one that is not there
granted-there : (s : Standing) (channel b : ℕ) → granted s channel b ≡ granted_in s b (find_id channel_id channel s.channels)
unfolding granted
granted-there s channel b = refl

pub granted-member : (s : Standing) (m : Member) (channel b : ℕ) → m.user.id ≡ s.me.user.id → m.roles ≡ s.me.roles → granted (record s { me = m }) channel b ≡ granted s channel b
granted-member s m channel b user held =
    granted-there (record s { me = m }) channel b ∙ (by_case (find_id channel_id channel s.channels) ∙ sym (granted-there s channel b))
  where
    by_case : (o : Option Channel) → granted_in (record s { me = m }) b o ≡ granted_in s b o
    by_case None = refl
    by_case (Some c) = grants-member s.guild s.owner s.roles s.me m c.overwrites b user held

pub granted-role : (s : Standing) (r : Role) (channel b : ℕ) → (r.id == s.guild) ≡ false → has_id own_id r.id s.me.roles ≡ false → granted (record s { roles = put_id role_id r s.roles }) channel b ≡ granted s channel b
granted-role s r channel b other none =
    granted-there (record s { roles = put_id role_id r s.roles }) channel b ∙ (by_case (find_id channel_id channel s.channels) ∙ sym (granted-there s channel b))
  where
    by_case : (o : Option Channel) → granted_in (record s { roles = put_id role_id r s.roles }) b o ≡ granted_in s b o
    by_case None = refl
    by_case (Some c) = grants-role s.guild s.owner r s.roles s.me c.overwrites b other none

-- of the channels only the overwrites count
abbrev pub overwrites_in : Channel → Overwrites
overwrites_in c = c.overwrites

pub granted-channels : (s : Standing) (cs : List Channel) (channel b : ℕ) → option_map overwrites_in (find_id channel_id channel cs) ≡ option_map overwrites_in (find_id channel_id channel s.channels)
    → granted (record s { channels = cs }) channel b ≡ granted s channel b
granted-channels s cs channel b same =
    granted-there (record s { channels = cs }) channel b
    ∙ (by_overwrites (record s { channels = cs }) (λ os. refl) (find_id channel_id channel cs)
    ∙ (ap in_overwrites same
    ∙ (sym (by_overwrites s (λ os. refl) (find_id channel_id channel s.channels)) ∙ sym (granted-there s channel b))))
  where
    in_overwrites : Option Overwrites → Bool
    in_overwrites None = false
    in_overwrites (Some os) = part_grants s.guild s.owner s.roles s.me os b

    by_overwrites : (t : Standing) → ((os : Overwrites) → part_grants t.guild t.owner t.roles t.me os b ≡ part_grants s.guild s.owner s.roles s.me os b) → (o : Option Channel) → granted_in t b o ≡ in_overwrites (option_map overwrites_in o)
    by_overwrites t same None = refl
    by_overwrites t same (Some c) = same c.overwrites

-- a channel that is put, that changes, or that goes
pub granted-put : (s : Standing) (c : Channel) (channel b : ℕ) → (c.id == channel) ≡ false → granted (record s { channels = put_id channel_id c s.channels }) channel b ≡ granted s channel b
granted-put s c channel b other =
    granted-channels s (put_id channel_id c s.channels) channel b
    (ap (option_map overwrites_in) (find-put channel_id c channel s.channels ∙ ap (λ here. if here then Some c else find_id channel_id channel s.channels) other))

pub granted-without : (s : Standing) (gone channel b : ℕ) → (gone == channel) ≡ false → granted (record s { channels = without_id channel_id gone s.channels }) channel b ≡ granted s channel b
granted-without s gone channel b other =
    granted-channels s (without_id channel_id gone s.channels) channel b
    (ap (option_map overwrites_in) (find-without channel_id gone channel s.channels ∙ ap (λ here. if here then None else find_id channel_id channel s.channels) other))

-- a change that leaves ids and overwrites
module _ (f : Channel → Channel) (id : (c : Channel) → (f c).id ≡ c.id) (overwrites : (c : Channel) → (f c).overwrites ≡ c.overwrites) where
  same-overwrites : (o : Option Channel) → option_map overwrites_in (option_map f o) ≡ option_map overwrites_in o
  same-overwrites None = refl
  same-overwrites (Some c) = ap (λ (os : Overwrites). Some os) (overwrites c)

  pub granted-mapped : (s : Standing) (cs : List Channel) (channel b : ℕ) → granted (record s { channels = map f cs }) channel b ≡ granted (record s { channels = cs }) channel b
  granted-mapped s cs channel b =
      granted-channels (record s { channels = cs }) (map f cs) channel b
      (ap (option_map overwrites_in) (find-map channel_id channel_id f id channel cs) ∙ same-overwrites (find_id channel_id channel cs))

  pub granted-changed : (s : Standing) (at channel b : ℕ) → granted (record s { channels = changed_id channel_id at f s.channels }) channel b ≡ granted s channel b
  granted-changed s at channel b =
      granted-channels s (changed_id channel_id at f s.channels) channel b
      (ap (option_map overwrites_in) (find-changed channel_id at f id channel s.channels) ∙ by_case (at == channel))
    where
      by_case : (here : Bool) → option_map overwrites_in (if here then option_map f (find_id channel_id channel s.channels) else find_id channel_id channel s.channels) ≡ option_map overwrites_in (find_id channel_id channel s.channels)
      by_case true = same-overwrites (find_id channel_id channel s.channels)
      by_case false = refl
