-- A client that is told what an edit of roles or members owes holds the view of the record after it.
use Rattle.std.proofs.Common.{◌≡◌, ℕ, ◌<◌, ◌-◌, ◌^◌, Bool, true, false, not, [], ◌∷◌, ◌++◌, Option, Some, None, if◌then◌else◌, refl, sym, ap, subst, ◌∙◌, eq-eqb, arith}
use Rattle.std.specs.Prelude.{◌==◌, nat_lt, length, is_some, option_map}
use Rattle.std.proofs.lemmas.Bool.{eqb-true}
use Rattle.std.proofs.lemmas.Bool.Decides.{nat_tests}
use Rattle.collections.specs.ById.{find_id, has_id, IsById}
use Rattle.collections.proofs.Finds.{key-found, find-put, find-map, find-changed, find-without}
use Rattle.collections.proofs.Has.{All-found}
use Rattle.perm_bits.specs.Bits.{has_bit}
use Rattle.intent_set.specs.Intents.{guilds}
use Rattle.guild_model.specs.declared.member.Member.{Member}
use Rattle.guild_model.specs.declared.verdict.Verdict.TheVariants.{IdTaken, UnknownMember, UnknownRole, TooMany}
use Rattle.guild_model.specs.Record.{Record, own_id, role_id, member_id}
use Rattle.guild_model.specs.Changes.{without_role}
use Rattle.guild_model.specs.Tests.{refused_if, first_of, too_long, too_many, unknown_role, unknown_member}
use Rattle.guild_model.specs.Ascending.{IsAscending, IsWell, HoldsInOrder}
use Rattle.guild_model.proofs.Tests.{first_passes, not_refused}
use Rattle.dispatch_types.specs.declared.viewer.Viewer.{Viewer}
use Rattle.dispatch_types.specs.declared.dispatch.Dispatch.TheVariants.{GuildMemberAdd}
use Rattle.dispatch_types.specs.Fold.{Held, fold_from}
use Rattle.role_member_edit.specs.declared.role_body.RoleBody.{RoleBody}
use Rattle.role_member_edit.specs.declared.member_add.MemberAdd.{MemberAdd as Addition}
use Rattle.role_member_edit.specs.Roles.{role_taken, everyone_role, role_of, role_create_verdict, role_created}
use Rattle.role_member_edit.specs.Members.{new_member, member_added, member_add_verdict, owner_stays, member_removed, nick_verdict, with_member_changed, with_nick, with_timeout}
use Rattle.role_member_edit.specs.HeldRoles.{holds, with_role}
use Rattle.event_views.specs.Asked.{asked}
use Rattle.event_views.specs.Synced.{synced}
use Rattle.event_views.specs.Has.{Has}
use Rattle.role_member_edit.specs.declared.RoleMemberEdit.{RoleMemberEdit}
use Rattle.role_member_edit.specs.declared.RoleMemberEdit.TheVariants.{RoleCreate, RoleUpdate, RoleDelete, MemberAdd, MemberRemove, MemberNick, MemberTimeout, MemberRoleAdd, MemberRoleRemove}
use Rattle.role_member_edit.specs.RoleMember.{role_member_verdict, role_member_applied}
use Rattle.role_member_events.specs.Dispatches.{added_member, member_told, member_updated, member_ended, roles_changed, role_member_dispatches}
use Rattle.role_member_events.proofs.Membership.{follows-member_changed, follows-member_add}
use Rattle.role_member_events.proofs.Gone.{follows-gone}
use Rattle.role_member_events.proofs.Rights.{created, follows-role_create, follows-role_update, follows-role_delete, follows-member_roles}

-- what a test that passed says
pub there_is : {T : Type 0} → (o : Option T) → not (is_some o) ≡ false → (x : T) × (o ≡ Some x)
there_is None e = absurd (cc)
there_is (Some x) e = (x, refl)

pub there_is_none : {T : Type 0} → (o : Option T) → is_some o ≡ false → o ≡ None
there_is_none None e = refl
there_is_none (Some x) e = absurd (cc)

pub member_there : (s : Record) (user : ℕ) → unknown_member s user ≡ None → (x : Member) × (find_id member_id user s.members ≡ Some x)
member_there s user e = there_is (find_id member_id user s.members) (not_refused (not (has_id member_id user s.members)) UnknownMember e)

below : (n limit : ℕ) → too_many limit n ≡ None → n < limit
below n limit e = by_test (nat_lt n limit) refl e
  where
    by_test : (b : Bool) → nat_lt n limit ≡ b → refused_if (not b) (TooMany limit) ≡ None → n < limit
    by_test true is e = grind (arith, nat_tests)
    by_test false is e = absurd (cc)

module _ (s : Record) (v : Viewer) (h : Held) (me : Member) (well : IsWell s) (opened : s.opened ≡ true) (own : find_id member_id v.user s.members ≡ Some me) (asks : has_bit v.intents guilds ≡ true) where
  -- the own member where the members stay
  same-me : (me' : Member) → find_id member_id v.user s.members ≡ Some me' → me ≡ me'
  same-me me' own' = cc

  pub follows-create : (e : RoleBody) → role_create_verdict s e ≡ None → Has s v me h → Has (role_created s e) v me (fold_from v.intents s.id h (asked v false (created s (role_of e))))
  follows-create e ok has =
      let new = (first_passes (role_taken s e.role) (too_many 250 (length s.roles) ∷ too_long 100 e.name ∷ []) ok).0 in
      follows-role_create s v h me (role_of e) well opened own asks (not_refused (has_id role_id e.role s.roles) IdTaken new) has

  -- a member that changes is told as it then is
  told-changed : (user : ℕ) (f : Member → Member) (x : Member) → ((m : Member) → (f m).user.id ≡ m.user.id) → find_id member_id user s.members ≡ Some x
      → find_id member_id user (with_member_changed s user f).members ≡ Some (f x)
  told-changed user f x same found =
      find-changed member_id user f same user s.members
      ∙ (ap (λ b. if b then option_map f (find_id member_id user s.members) else find_id member_id user s.members) (eq-eqb user user refl)
      ∙ ap (option_map f) found)

  -- with the roles that it holds in order
  roles-ordered : (user : ℕ) (f : Member → Member) (x : Member) → ((m : Member) → (f m).user.id ≡ m.user.id) → IsAscending (with_member_changed s user f) → find_id member_id user s.members ≡ Some x → IsById own_id (f x).roles
  roles-ordered user f x same ascends found = All-found member_id HoldsInOrder user (with_member_changed s user f).members (f x) ascends.held (told-changed user f x same found)

  module _ (user : ℕ) (f : Member → Member) (same : (m : Member) → (f m).user.id ≡ m.user.id) (after : IsAscending (with_member_changed s user f)) (me' : Member) (own' : find_id member_id v.user (with_member_changed s user f).members ≡ Some me') (known : unknown_member s user ≡ None) where
    pub follows-change : ((m : Member) → (f m).roles ≡ m.roles)
        → Has s v me h → Has (with_member_changed s user f) v me' (fold_from v.intents s.id h (member_updated (with_member_changed s user f) v user))
    follows-change held has =
        let found = member_there s user known in
        subst (λ (o : Option Member). Has (with_member_changed s user f) v me' (fold_from v.intents s.id h (member_told (with_member_changed s user f) v o))) (sym (told-changed user f found.0 same found.1))
        (follows-member_changed s v user f found.0 me me' same well.ascending found.1 own own' h (roles-ordered user f found.0 same after found.1) held has)

    -- what is seen may change with the own roles
    pub follows-roles : Has s v me h → Has (with_member_changed s user f) v me' (fold_from v.intents s.id h (roles_changed s me (with_member_changed s user f) me' v user))
    follows-roles has =
        let found = member_there s user known in
        subst (λ (o : Option Member). Has (with_member_changed s user f) v me' (fold_from v.intents s.id h (member_told (with_member_changed s user f) v o ++ synced s me (with_member_changed s user f) me' v))) (sym (told-changed user f found.0 same found.1))
        (follows-member_roles s v user f found.0 me me' same well found.1 own own' h (roles-ordered user f found.0 same after found.1) asks has)

  -- one that is added is not the viewer's bot, which is there
  pub follows-add : (e : Addition) (me' : Member) → find_id member_id v.user (member_added s e).members ≡ Some me' → member_add_verdict s e ≡ None
      → Has s v me h → Has (member_added s e) v me' (fold_from v.intents s.id h (asked v (e.user == v.user) (GuildMemberAdd (added_member s.id e))))
  follows-add e me' own' ok has =
      subst (λ (m : Member). Has (member_added s e) v m (fold_from v.intents s.id h (asked v (e.user == v.user) (GuildMemberAdd (added_member s.id e))))) stays
      (follows-member_add s v h me added well.ascending few tt new (e.user == v.user) has)
    where
      added : Member
      added = new_member e.user e.name e.bot e.at

      tests : (refused_if (has_id member_id e.user s.members) IdTaken ≡ None) × (first_of (too_many 5000 (length s.members) ∷ too_long 100 e.name ∷ []) ≡ None)
      tests = first_passes (refused_if (has_id member_id e.user s.members) IdTaken) (too_many 5000 (length s.members) ∷ too_long 100 e.name ∷ []) ok

      new : find_id member_id e.user s.members ≡ None
      new = there_is_none (find_id member_id e.user s.members) (not_refused (has_id member_id e.user s.members) IdTaken tests.0)

      few : length s.members < 2 ^ 64 - 1
      few = let fits = below (length s.members) 5000 (first_passes (too_many 5000 (length s.members)) (too_long 100 e.name ∷ []) tests.1).0 in omega (arith, fits)

      by_own : (b : Bool) → (e.user == v.user) ≡ b → (if b then Some added else find_id member_id v.user s.members) ≡ Some me' → me ≡ me'
      by_own true is found =
          let none : find_id member_id v.user s.members ≡ None = subst (λ (u : ℕ). find_id member_id u s.members ≡ None) (eqb-true e.user v.user is) new in
          absurd (cc)
      by_own false is found = cc

      stays : me ≡ me'
      stays = by_own (e.user == v.user) refl (sym (find-put member_id added v.user s.members) ∙ own')

  -- nor is one that is removed, who is there after it
  pub follows-remove : (user : ℕ) (me' : Member) → find_id member_id v.user (member_removed s user).members ≡ Some me' → unknown_member s user ≡ None → IsAscending (member_removed s user)
      → Has s v me h → Has (member_removed s user) v me' (fold_from v.intents s.id h (member_ended s me (member_removed s user) v (find_id member_id user s.members)))
  follows-remove user me' own' known after has =
      subst (λ (m : Member). Has (member_removed s user) v m (fold_from v.intents s.id h (member_ended s me (member_removed s user) v (find_id member_id user s.members)))) stays
      (subst (λ (o : Option Member). Has (member_removed s user) v me (fold_from v.intents s.id h (member_ended s me (member_removed s user) v o))) (sym found.1)
      (subst (λ (u : ℕ). Has (member_removed s u) v me (fold_from v.intents s.id h (member_ended s me (member_removed s u) v (Some found.0)))) at
      (follows-gone s v me found.0 well.ascending (key-found member_id v.user s.members me own) asks
      (subst (λ (u : ℕ). IsAscending (member_removed s u)) (sym at) after) h
      (subst (λ (u : ℕ). find_id member_id u s.members ≡ Some found.0) (sym at) found.1) has)))
    where
      found : (x : Member) × (find_id member_id user s.members ≡ Some x)
      found = member_there s user known

      at : found.0.user.id ≡ user
      at = key-found member_id user s.members found.0 found.1

      by_own : (b : Bool) → (user == v.user) ≡ b → (if b then None else find_id member_id v.user s.members) ≡ Some me' → me ≡ me'
      by_own true is e = absurd (cc)
      by_own false is e = cc

      stays : me ≡ me'
      stays = by_own (user == v.user) refl (sym (find-without member_id user v.user s.members) ∙ own')

-- what holds of each edit
abbrev pub Follows : Record → Viewer → Held → Member → Member → RoleMemberEdit → Type 0
Follows s v h me me' e = Has (role_member_applied s e) v me' (fold_from v.intents s.id h (role_member_dispatches s me (role_member_applied s e) me' v e))

pub follows-role_member : (s : Record) (v : Viewer) (h : Held) (me me' : Member) (e : RoleMemberEdit) → IsWell s → IsWell (role_member_applied s e) → s.opened ≡ true → role_member_verdict s e ≡ None
    → find_id member_id v.user s.members ≡ Some me → find_id member_id v.user (role_member_applied s e).members ≡ Some me' → has_bit v.intents guilds ≡ true
    → Has s v me h → Follows s v h me me' e
follows-role_member s v h me me' (RoleCreate e) well after opened ok own own' asks has =
    subst (λ (m : Member). Follows s v h me m (RoleCreate e)) (same-me s v h me well opened own asks me' own') (follows-create s v h me well opened own asks e ok has)
follows-role_member s v h me me' (RoleUpdate e) well after opened ok own own' asks has =
    subst (λ (m : Member). Follows s v h me m (RoleUpdate e)) (same-me s v h me well opened own asks me' own') (follows-role_update s v h me (role_of e) well asks has)
follows-role_member s v h me me' (RoleDelete role) well after opened ok own own' asks has =
    let became : Some (without_role role me) ≡ Some me' = sym (find-map member_id member_id (without_role role) (λ m. refl) v.user s.members ∙ ap (option_map (without_role role)) own) ∙ own' in
    subst (λ (m : Member). Follows s v h me m (RoleDelete role)) (cc) (follows-role_delete s v h me role well asks has)
follows-role_member s v h me me' (MemberAdd e) well after opened ok own own' asks has = follows-add s v h me well opened own asks e me' own' ok has
follows-role_member s v h me me' (MemberRemove user) well after opened ok own own' asks has =
    follows-remove s v h me well opened own asks user me' own' (first_passes (unknown_member s user) (owner_stays s user ∷ []) ok).0 after.ascending has
follows-role_member s v h me me' (MemberNick e) well after opened ok own own' asks has =
    follows-change s v h me well opened own asks e.user (with_nick e.nick) (λ m. refl) after.ascending me' own' (first_passes (unknown_member s e.user) (nick_verdict e.nick ∷ []) ok).0 (λ m. refl) has
follows-role_member s v h me me' (MemberTimeout e) well after opened ok own own' asks has =
    follows-change s v h me well opened own asks e.user (with_timeout e.until) (λ m. refl) after.ascending me' own' ok (λ m. refl) has
follows-role_member s v h me me' (MemberRoleAdd e) well after opened ok own own' asks has =
    let held = refused_if (holds s e.user e.role) IdTaken in
    let tests = first_passes (everyone_role s e.role) (unknown_member s e.user ∷ unknown_role s e.role ∷ held ∷ []) ok in
    follows-roles s v h me well opened own asks e.user (with_role e.role) (λ m. refl) after.ascending me' own' (first_passes (unknown_member s e.user) (unknown_role s e.role ∷ held ∷ []) tests.1).0 has
follows-role_member s v h me me' (MemberRoleRemove e) well after opened ok own own' asks has =
    let free = refused_if (not (holds s e.user e.role)) UnknownRole in
    let tests = first_passes (everyone_role s e.role) (unknown_member s e.user ∷ free ∷ []) ok in
    follows-roles s v h me well opened own asks e.user (without_role e.role) (λ m. refl) after.ascending me' own' (first_passes (unknown_member s e.user) (free ∷ []) tests.1).0 has
