-- Members that are added, changed and removed, and what a client then holds of them.
use Rattle.std.proofs.Common.{◌≡◌, ℕ, ◌<◌, ◌-◌, ◌^◌, Bool, true, false, List, [], Some, None, if◌then◌else◌, refl, sym, ap, subst, ◌∙◌, arith}
use Rattle.std.specs.Prelude.{◌==◌, ◌||◌, filter, length, option_map}
use Rattle.std.proofs.lemmas.Bool.{or_parts}
use Rattle.std.proofs.lemmas.Bool.{eqb-true}
use Rattle.collections.specs.ById.{find_id, put_id, without_id, IsById}
use Rattle.collections.proofs.Finds.{key-found, find-changed}
use Rattle.collections.proofs.Filters.{changed-put}
use Rattle.perm_bits.specs.Bits.{has_bit}
use Rattle.intent_set.specs.Intents.{guild_members}
use Rattle.guild_model.specs.declared.member.Member.{Member}
use Rattle.guild_model.specs.declared.user.User.{User}
use Rattle.guild_model.specs.Record.{Record, own_id, member_id}
use Rattle.guild_model.specs.Ascending.{IsAscending}
use Rattle.dispatch_types.specs.declared.viewer.Viewer.{Viewer}
use Rattle.dispatch_types.specs.declared.view.OpenView.{OpenView}
use Rattle.dispatch_types.specs.declared.view.ThreadView.{ThreadView}
use Rattle.dispatch_types.specs.declared.dispatch.Dispatch.{Dispatch}
use Rattle.dispatch_types.specs.declared.dispatch.Dispatch.TheVariants.{GuildMemberAdd, GuildMemberUpdate, GuildMemberRemove}
use Rattle.dispatch_types.specs.Objects.{member_object, member_of}
use Rattle.dispatch_types.specs.Projection.{told, listed, is_known, open_view}
use Rattle.dispatch_types.specs.Fold.{Held, one_more, one_less, set_me, add_member, update_member, remove_member, folded, fold_from}
use Rattle.dispatch_types.proofs.Objects.{member-back}
use Rattle.dispatch_types.proofs.Folds.{folded-here}
use Rattle.role_member_edit.specs.Members.{with_member_changed}
use Rattle.thread_sync.proofs.Sights.{threads_stay, members-changed-keep}
use Rattle.event_views.specs.Asked.{asked}
use Rattle.event_views.specs.Has.{Has}
use Rattle.event_views.proofs.Steps.{whole, untold, by_asked}
use Rattle.role_member_events.specs.Dispatches.{guild_member}
use Rattle.event_views.proofs.Lists.{known-put, known-without, length-changed, length-put, length-without, listed-same, told-same, listed-again, same-parts}

-- the same view with other threads
abbrev pub showing : OpenView → List ThreadView → OpenView
showing w threads = record w { threads = threads }

-- ---- a member that changes

module _ (s : Record) (v : Viewer) (user : ℕ) (f : Member → Member) (x me me' : Member) (same : (m : Member) → (f m).user.id ≡ m.user.id) (ascends : IsAscending s)
    (found : find_id member_id user s.members ≡ Some x) (own : find_id member_id v.user s.members ≡ Some me) (own' : find_id member_id v.user (with_member_changed s user f).members ≡ Some me') where
  abbrev after : Record
  after = with_member_changed s user f

  at : (f x).user.id ≡ user
  at = same x ∙ key-found member_id user s.members x found

  -- the own member after it
  own-after : Some me' ≡ (if user == v.user then option_map f (find_id member_id v.user s.members) else find_id member_id v.user s.members)
  own-after = sym own' ∙ find-changed member_id user f same v.user s.members

  pub own-changed : (user == v.user) ≡ true → (me ≡ x) × (me' ≡ f x)
  own-changed is =
      let here : user ≡ v.user = eqb-true user v.user is in
      let mine : find_id member_id v.user s.members ≡ Some x = subst (λ (u : ℕ). find_id member_id u s.members ≡ Some x) here found in
      let became : Some me' ≡ Some (f x) = own-after ∙ (ap (λ b. if b then option_map f (find_id member_id v.user s.members) else find_id member_id v.user s.members) is ∙ ap (option_map f) mine) in
      (cc, cc)

  pub own-stays : (user == v.user) ≡ false → me' ≡ me
  own-stays other =
      let stays : Some me' ≡ Some me = own-after ∙ (ap (λ b. if b then option_map f (find_id member_id v.user s.members) else find_id member_id v.user s.members) other ∙ own) in
      cc

  pub own-user : me'.user.id ≡ me.user.id
  own-user = key-found member_id v.user after.members me' own' ∙ sym (key-found member_id v.user s.members me own)

  pub other-user : ((f x).user.id == v.user) ≡ false → (user == v.user) ≡ false
  other-user other = ap (λ u. u == v.user) (sym at) ∙ other

  members-after : after.members ≡ put_id member_id (f x) s.members
  members-after = changed-put member_id user f x s.members ascends.members same found

  module _ (known : List ℕ) where
    abbrev known-after : List ℕ
    known-after = put_id own_id (f x).user.id known

    told-members : listed v.intents guild_members (put_id member_id (f x) (listed v.intents guild_members (filter (is_known known) s.members))) ≡ listed v.intents guild_members (filter (is_known known-after) after.members)
    told-members =
        listed-again v.intents guild_members (put_id member_id (f x)) (filter (is_known known) s.members)
        ∙ ap (listed v.intents guild_members) (known-put (f x) known s.members ascends.members ∙ ap (filter (is_known known-after)) (sym members-after))

    told-count : told v.intents guild_members (length s.members) ≡ told v.intents guild_members (length after.members)
    told-count = ap (told v.intents guild_members) (sym (length-changed user f s.members))

    -- the update brings all of the view after it but the threads
    pub updates : update_member v.intents v.user (f x) (open_view s v.intents known me) ≡ showing (open_view after v.intents known-after me') (open_view s v.intents known me).threads
    updates = by_own (user == v.user) refl
      where
        turned : OpenView
        turned = record (open_view s v.intents known me) { members = listed v.intents guild_members (put_id member_id (f x) (listed v.intents guild_members (filter (is_known known) s.members))) }

        with-me : (m : Member) → record turned { me = m } ≡ showing (open_view after v.intents known-after m) (open_view s v.intents known me).threads
        with-me m = same-parts (record turned { me = m }) told-members told-count refl

        by_own : (b : Bool) → (user == v.user) ≡ b → set_me v.user (f x) turned ≡ showing (open_view after v.intents known-after me') (open_view s v.intents known me).threads
        by_own true is =
            let test : ((f x).user.id == v.user) ≡ true = ap (λ u. u == v.user) at ∙ is in
            ap (λ b. if b then record turned { me = f x } else turned) test
            ∙ (with-me (f x) ∙ ap (λ (m : Member). showing (open_view after v.intents known-after m) (open_view s v.intents known me).threads) (sym (own-changed is).1))
        by_own false other =
            let test : ((f x).user.id == v.user) ≡ false = ap (λ u. u == v.user) at ∙ other in
            ap (λ b. if b then record turned { me = f x } else turned) test
            ∙ (with-me me ∙ ap (λ (m : Member). showing (open_view after v.intents known-after m) (open_view s v.intents known me).threads) (sym (own-stays other)))

    -- a viewer that is not told of it holds nothing of it
    pub silent : (user == v.user) ≡ false → has_bit v.intents guild_members ≡ false → open_view s v.intents known me ≡ showing (open_view after v.intents known me') (open_view s v.intents known me).threads
    silent other blind =
        let members : listed v.intents guild_members (filter (is_known known) s.members) ≡ listed v.intents guild_members (filter (is_known known) after.members) = listed-same v.intents guild_members _ _ (λ e. absurd (cc)) in
        let same-me : open_view s v.intents known me ≡ showing (open_view after v.intents known me) (open_view s v.intents known me).threads = same-parts (open_view s v.intents known me) members told-count refl in
        same-me ∙ ap (λ (m : Member). showing (open_view after v.intents known m) (open_view s v.intents known me).threads) (sym (own-stays other))

  -- where the own member holds the roles that it held, what is seen stays
  pub follows-held : (h : Held) → IsById own_id (f x).roles → me'.roles ≡ me.roles
      → Has s v me h → Has after v me' (fold_from v.intents s.id h (asked v ((f x).user.id == v.user) (GuildMemberUpdate (guild_member s.id (f x)))))
  follows-held h ordered held-after has =
      by_asked after v s.id h me' ((f x).user.id == v.user) (GuildMemberUpdate (guild_member s.id (f x))) tells keeps_silent
    where
      threads : (known' : List ℕ) → (open_view after v.intents known' me').threads ≡ (open_view s v.intents h.known me).threads
      threads known' = threads_stay s after me me' v.intents h.known known' ascends refl own-user (members-changed-keep s me after.members me' own-user held-after)

      tells : (((f x).user.id == v.user) || has_bit v.intents guild_members) ≡ true → Has after v me' (folded v.intents s.id h (GuildMemberUpdate (guild_member s.id (f x))))
      tells e =
          whole s after v h me me' (GuildMemberUpdate (guild_member s.id (f x))) (update_member v.intents h.bot (member_of (member_object (f x)))) (put_id own_id (f x).user.id) refl
          (folded-here v.intents s.id h (GuildMemberUpdate (guild_member s.id (f x))) refl refl)
          (ap (λ (m : Member). update_member v.intents h.bot m (open_view s v.intents h.known me)) (member-back (f x) ordered)
          ∙ (ap (λ bot. update_member v.intents bot (f x) (open_view s v.intents h.known me)) has.bot
          ∙ (updates h.known ∙ ap (showing (open_view after v.intents (put_id own_id (f x).user.id h.known) me')) (sym (threads (put_id own_id (f x).user.id h.known)))))) has

      keeps_silent : (((f x).user.id == v.user) || has_bit v.intents guild_members) ≡ false → Has after v me' h
      keeps_silent blind =
          let parts = or_parts ((f x).user.id == v.user) (has_bit v.intents guild_members) blind in
          untold s after v h me me' (silent h.known (other-user parts.0) parts.1 ∙ ap (showing (open_view after v.intents h.known me')) (sym (threads h.known))) has

  -- as it does where no roles change
  pub follows-member_changed : (h : Held) → IsById own_id (f x).roles → ((m : Member) → (f m).roles ≡ m.roles)
      → Has s v me h → Has after v me' (fold_from v.intents s.id h (asked v ((f x).user.id == v.user) (GuildMemberUpdate (guild_member s.id (f x)))))
  follows-member_changed h ordered held has = follows-held h ordered (by_own (user == v.user) refl) has
    where
      by_own : (b : Bool) → (user == v.user) ≡ b → me'.roles ≡ me.roles
      by_own true is = let e = own-changed is in ap (λ (m : Member). m.roles) e.1 ∙ (held x ∙ ap (λ (m : Member). m.roles) (sym e.0))
      by_own false other = ap (λ (m : Member). m.roles) (own-stays other)

-- ---- a member that is added

pub follows-member_add : (s : Record) (v : Viewer) (h : Held) (me m : Member) → IsAscending s → length s.members < 2 ^ 64 - 1 → IsById own_id m.roles
    → find_id member_id m.user.id s.members ≡ None → (own : Bool)
    → Has s v me h → Has (record s { members = put_id member_id m s.members }) v me (fold_from v.intents s.id h (asked v own (GuildMemberAdd (guild_member s.id m))))
follows-member_add s v h me m ascends few ordered new own has = by_asked after v s.id h me own (GuildMemberAdd (guild_member s.id m)) tells keeps_silent
  where
    after : Record
    after = record s { members = put_id member_id m s.members }

    threads : (known' : List ℕ) → (open_view after v.intents known' me).threads ≡ (open_view s v.intents h.known me).threads
    threads known' = threads_stay s after me me v.intents h.known known' ascends refl refl (members-changed-keep s me after.members me refl refl)

    members : listed v.intents guild_members (put_id member_id m (listed v.intents guild_members (filter (is_known h.known) s.members))) ≡ listed v.intents guild_members (filter (is_known (put_id own_id m.user.id h.known)) after.members)
    members = listed-again v.intents guild_members (put_id member_id m) (filter (is_known h.known) s.members) ∙ ap (listed v.intents guild_members) (known-put m h.known s.members ascends.members)

    more : one_more (length s.members) ≡ length after.members
    more = let e = length-put m s.members new in omega (arith, e, few)

    count : option_map one_more (told v.intents guild_members (length s.members)) ≡ told v.intents guild_members (length after.members)
    count = by_bit (has_bit v.intents guild_members)
      where
        by_bit : (b : Bool) → option_map one_more (if b then Some (length s.members) else None) ≡ (if b then Some (length after.members) else None)
        by_bit true = ap (λ n. Some n) more
        by_bit false = refl

    turns : add_member v.intents m (open_view s v.intents h.known me) ≡ open_view after v.intents (put_id own_id m.user.id h.known) me
    turns = same-parts (open_view s v.intents h.known me) members count (sym (threads (put_id own_id m.user.id h.known)))

    tells : has_bit v.intents guild_members ≡ true → Has after v me (folded v.intents s.id h (GuildMemberAdd (guild_member s.id m)))
    tells e =
        whole s after v h me me (GuildMemberAdd (guild_member s.id m)) (add_member v.intents (member_of (member_object m))) (put_id own_id m.user.id) refl
        (folded-here v.intents s.id h (GuildMemberAdd (guild_member s.id m)) refl refl)
        (ap (λ (x : Member). add_member v.intents x (open_view s v.intents h.known me)) (member-back m ordered) ∙ turns) has

    keeps_silent : has_bit v.intents guild_members ≡ false → Has after v me h
    keeps_silent blind =
        let same : listed v.intents guild_members (filter (is_known h.known) s.members) ≡ listed v.intents guild_members (filter (is_known h.known) after.members) = listed-same v.intents guild_members _ _ (λ e. absurd (cc)) in
        let none : told v.intents guild_members (length s.members) ≡ told v.intents guild_members (length after.members) = told-same v.intents guild_members _ _ (λ e. absurd (cc)) in
        untold s after v h me me (same-parts (open_view s v.intents h.known me) same none (sym (threads h.known))) has

-- ---- a member that is removed

pub follows-member_gone : (s : Record) (v : Viewer) (h : Held) (me x : Member) (user : User) → IsAscending s
    → find_id member_id user.id s.members ≡ Some x → (own : Bool)
    → Has s v me h → Has (record s { members = without_id member_id user.id s.members }) v me (fold_from v.intents s.id h (asked v own (GuildMemberRemove (record { guild = s.id; user = user }))))
follows-member_gone s v h me x user ascends found own has = by_asked after v s.id h me own gone tells keeps_silent
  where
    gone : Dispatch
    gone = GuildMemberRemove (record { guild = s.id; user = user })

    after : Record
    after = record s { members = without_id member_id user.id s.members }

    threads : (known' : List ℕ) → (open_view after v.intents known' me).threads ≡ (open_view s v.intents h.known me).threads
    threads known' = threads_stay s after me me v.intents h.known known' ascends refl refl (members-changed-keep s me after.members me refl refl)

    members : without_id member_id user.id (listed v.intents guild_members (filter (is_known h.known) s.members)) ≡ listed v.intents guild_members (filter (is_known (without_id own_id user.id h.known)) after.members)
    members = by_bit (has_bit v.intents guild_members)
      where
        by_bit : (b : Bool) → without_id member_id user.id (if b then filter (is_known h.known) s.members else []) ≡ (if b then filter (is_known (without_id own_id user.id h.known)) after.members else [])
        by_bit true = known-without user.id h.known s.members ascends.members
        by_bit false = refl

    less : one_less (length s.members) ≡ length after.members
    less = sym (length-without user.id x s.members ascends.members found)

    count : option_map one_less (told v.intents guild_members (length s.members)) ≡ told v.intents guild_members (length after.members)
    count = by_bit (has_bit v.intents guild_members)
      where
        by_bit : (b : Bool) → option_map one_less (if b then Some (length s.members) else None) ≡ (if b then Some (length after.members) else None)
        by_bit true = ap (λ n. Some n) less
        by_bit false = refl

    turns : remove_member user.id (open_view s v.intents h.known me) ≡ open_view after v.intents (without_id own_id user.id h.known) me
    turns = same-parts (open_view s v.intents h.known me) members count (sym (threads (without_id own_id user.id h.known)))

    tells : has_bit v.intents guild_members ≡ true → Has after v me (folded v.intents s.id h gone)
    tells e = whole s after v h me me gone (remove_member user.id) (without_id own_id user.id) refl (folded-here v.intents s.id h gone refl refl) turns has

    keeps_silent : has_bit v.intents guild_members ≡ false → Has after v me h
    keeps_silent blind =
        let same : listed v.intents guild_members (filter (is_known h.known) s.members) ≡ listed v.intents guild_members (filter (is_known h.known) after.members) = listed-same v.intents guild_members _ _ (λ e. absurd (cc)) in
        let none : told v.intents guild_members (length s.members) ≡ told v.intents guild_members (length after.members) = told-same v.intents guild_members _ _ (λ e. absurd (cc)) in
        untold s after v h me me (same-parts (open_view s v.intents h.known me) same none (sym (threads h.known))) has
