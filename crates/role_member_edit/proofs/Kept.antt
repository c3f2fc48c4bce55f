-- A record in which the lists hold together stays so under each edit of roles and members.
use Rattle.std.proofs.Common.{◌≡◌, ℕ, Bool, true, false, ◌||◌, List, [], ◌∷◌, map, Option, Some, None, if◌then◌else◌, refl, sym, ap, ◌∙◌, subst, arith}
use Rattle.std.specs.Prelude.{◌==◌, option_map}
use Rattle.std.proofs.lemmas.Bool.Decides.{nat_tests}
use Rattle.std.proofs.lemmas.List.Elements.{All-weaker}
use Rattle.collections.specs.ById.{find_id, has_id, put_id, changed_id, without_id}
use Rattle.collections.proofs.Finds.{find-put, find-changed, find-map, found-without, found-mapped}
use Rattle.collections.proofs.Has.{has-put, has-kept, has-left, has-without, has-changed, has-map, changed_alike}
use Rattle.guild_model.specs.declared.member.Member.{Member}
use Rattle.guild_model.specs.declared.channel.Channel.{Channel}
use Rattle.guild_model.specs.declared.thread.Thread.{Thread}
use Rattle.guild_model.specs.declared.message.MessageHead.{MessageHead}
use Rattle.guild_model.specs.Record.{Record, own_id, role_id, member_id, overwrite_id, channel_id, thread_id, thread_member_id, voice_id, presence_id}
use Rattle.guild_model.specs.Consistent.{IsConsistent, is_parent, is_channel_or_thread}
use Rattle.guild_model.specs.declared.verdict.Verdict.TheVariants.{UnknownRole, IdTaken, EveryoneRole, OwnerStays}
use Rattle.guild_model.specs.Tests.{refused_if, unknown_role, unknown_member}
use Rattle.guild_model.proofs.Tests.{first_passes, not_refused, passed}
use Rattle.guild_model.specs.Changes.{without_role, without_role_overwrite}
use Rattle.guild_model.proofs.Kept.{members_changed}
use Rattle.role_member_edit.specs.declared.member_add.MemberAdd.{MemberAdd}
use Rattle.role_member_edit.specs.declared.held_role.HeldRole.{HeldRole}
use Rattle.role_member_edit.specs.Roles.{everyone_role, role_delete_verdict, role_deleted}
use Rattle.role_member_edit.specs.Members.{owner_stays, member_remove_verdict, new_member, member_added, without_user, member_removed, with_member_changed, with_nick, with_timeout}
use Rattle.role_member_edit.specs.HeldRoles.{holds, member_role_add_verdict, member_role_added, with_role, with_roles, held_with}

-- what the tests let through
delete_other : (g : Record) (role : ℕ) → role_delete_verdict g role ≡ None → (role == g.id) ≡ false
delete_other g role e = not_refused (role == g.id) EveryoneRole (first_passes (everyone_role g role) (unknown_role g role ∷ []) e).0

remove_other : (g : Record) (user : ℕ) → member_remove_verdict g user ≡ None → (user == g.owner) ≡ false
remove_other g user e =
    let rest = (first_passes (unknown_member g user) (owner_stays g user ∷ []) e).1 in
    not_refused (user == g.owner) OwnerStays (first_passes (owner_stays g user) [] rest).0

a_role : (g : Record) (edit : HeldRole) → member_role_add_verdict g edit ≡ None → (has_id role_id edit.role g.roles ≡ true) × ((edit.role == g.id) ≡ false)
a_role g edit e =
    let held = refused_if (holds g edit.user edit.role) IdTaken in
    let first = first_passes (everyone_role g edit.role) (unknown_member g edit.user ∷ unknown_role g edit.role ∷ held ∷ []) e in
    let second = first_passes (unknown_member g edit.user) (unknown_role g edit.role ∷ held ∷ []) first.1 in
    let third = first_passes (unknown_role g edit.role) (held ∷ []) second.1 in
    (passed (has_id role_id edit.role g.roles) UnknownRole third.0, not_refused (edit.role == g.id) EveryoneRole first.0)

-- a member is given the roles that it holds and one more
pub given_as : (g : Record) (edit : HeldRole) (roles : List ℕ) → roles ≡ held_with g edit.user edit.role → with_member_changed g edit.user (with_roles roles) ≡ member_role_added g edit
given_as g edit roles e =
    let same : changed_id member_id edit.user (with_roles roles) g.members ≡ changed_id member_id edit.user (with_role edit.role) g.members =
    changed_alike member_id edit.user _ _ g.members (λ m found. rw (e, found) refl) in
    ap (λ ms. record g { members = ms }) same

module _ (g : Record) (is_open : g.opened ≡ true) (h : IsConsistent g) where
  -- the roles that a member may hold
  abbrev IsRole : ℕ → Type 0
  IsRole role = (has_id role_id role g.roles ≡ true) × ((role == g.id) ≡ false)

  abbrev Holds : Member → Type 0
  Holds m = (role : ℕ) → has_id own_id role m.roles ≡ true → IsRole role

  found_put : (b : Bool) (m n : Member) (o : Option Member) → Holds n → (o ≡ Some m → Holds m) → (if b then Some n else o) ≡ Some m → Holds m
  found_put true m n o new old e = let same : n ≡ m = cc in subst Holds same new
  found_put false m n o new old e = old e

  -- a member comes, or is another
  pub member_set : (n : Member) → Holds n → IsConsistent (record g { members = put_id member_id n g.members })
  member_set n new =
      members_changed g is_open h _ (λ user there. has-kept member_id n user g.members there)
      (λ user role m found holds. found_put (member_id n == user) m n (find_id member_id user g.members) new (λ e role. h.held user role m e) (sym (find-put member_id n user g.members) ∙ found) role holds)

  pub added : (edit : MemberAdd) → IsConsistent (member_added g edit)
  added edit = member_set (new_member edit.user edit.name edit.bot edit.at) (λ role holds. absurd (cc))

  found_changed : (b : Bool) (f : Member → Member) (m : Member) (o : Option Member) → ((m : Member) → Holds m → Holds (f m)) → ((m : Member) → o ≡ Some m → Holds m) → (if b then option_map f o else o) ≡ Some m → Holds m
  found_changed true f m None keeps old e = absurd (cc)
  found_changed true f m (Some n) keeps old e = let same : f n ≡ m = cc in subst Holds same (keeps n (old n refl))
  found_changed false f m o keeps old e = old m e

  -- a member is another in its place
  pub member_changed : (at : ℕ) (f : Member → Member) → ((m : Member) → member_id (f m) ≡ member_id m) → ((m : Member) → Holds m → Holds (f m)) → IsConsistent (with_member_changed g at f)
  member_changed at f same keeps =
      members_changed g is_open h _ (λ user there. has-changed member_id at f same user g.members ∙ there)
      (λ user role m found holds. found_changed (at == user) f m (find_id member_id user g.members) keeps (λ m e role. h.held user role m e) (sym (find-changed member_id at f same user g.members) ∙ found) role holds)

  pub nicked : (user : ℕ) (nick : Option (List ℕ)) → IsConsistent (with_member_changed g user (with_nick nick))
  nicked user nick = member_changed user (with_nick nick) (λ m. refl) (λ m old. old)

  pub timed_out : (user : ℕ) (until : Option ℕ) → IsConsistent (with_member_changed g user (with_timeout until))
  timed_out user until = member_changed user (with_timeout until) (λ m. refl) (λ m old. old)

  holds_more : (role : ℕ) → IsRole role → (m : Member) → Holds m → Holds (with_role role m)
  holds_more role is m old other holds = by_test (role == other) refl (sym (has-put own_id role other m.roles) ∙ holds)
    where
      by_test : (b : Bool) → (role == other) ≡ b → (b || has_id own_id other m.roles) ≡ true → IsRole other
      by_test true e either = let same : role ≡ other = grind (arith, nat_tests) in subst IsRole same is
      by_test false e either = old other either

  pub given : (edit : HeldRole) → member_role_add_verdict g edit ≡ None → IsConsistent (member_role_added g edit)
  given edit accepted = member_changed edit.user (with_role edit.role) (λ m. refl) (holds_more edit.role (a_role g edit accepted))

  holds_less : (role : ℕ) (m : Member) → Holds m → Holds (without_role role m)
  holds_less role m old other holds = old other (has-left own_id role other m.roles holds).1

  pub taken : (user role : ℕ) → IsConsistent (with_member_changed g user (without_role role))
  taken user role = member_changed user (without_role role) (λ m. refl) (holds_less role)

  -- a role goes
  still_role : (role other : ℕ) → (role == other) ≡ false → has_id role_id other g.roles ≡ true → has_id role_id other (without_id role_id role g.roles) ≡ true
  still_role role other ne there = grind (arith, has-without role_id role other g.roles)

  held_left : (role other : ℕ) (m x : Member) → m ≡ without_role role x → Holds x → has_id own_id other m.roles ≡ true
      → (has_id role_id other (without_id role_id role g.roles) ≡ true) × ((other == g.id) ≡ false)
  held_left role other m x e old holds =
      let parts = has-left own_id role other x.roles (sym (ap (λ (m : Member). has_id own_id other m.roles) e) ∙ holds) in
      let is = old other parts.1 in
      (still_role role other parts.0 is.0, is.1)

  overwritten_left : (role other : ℕ) (c x : Channel) → c ≡ without_role_overwrite role x → (has_id overwrite_id other x.overwrites.roles ≡ true → has_id role_id other g.roles ≡ true)
      → has_id overwrite_id other c.overwrites.roles ≡ true → has_id role_id other (without_id role_id role g.roles) ≡ true
  overwritten_left role other c x e old there =
      let parts = has-left overwrite_id role other x.overwrites.roles (sym (ap (λ (c : Channel). has_id overwrite_id other c.overwrites.roles) e) ∙ there) in
      still_role role other parts.0 (old parts.1)

  same_parent : (role : ℕ) (o : Option Channel) → is_parent (option_map (without_role_overwrite role) o) ≡ is_parent o
  same_parent role None = refl
  same_parent role (Some c) = refl

  pub role_gone : (role : ℕ) → role_delete_verdict g role ≡ None → IsConsistent (role_deleted g role)
  role_gone role accepted =
      let ne : (role == g.id) ≡ false = delete_other g role accepted in
      let members : (id : ℕ) → has_id member_id id (map (without_role role) g.members) ≡ has_id member_id id g.members = λ id. has-map member_id (without_role role) (λ m. refl) id g.members in
      let channels : (id : ℕ) → has_id channel_id id (map (without_role_overwrite role) g.channels) ≡ has_id channel_id id g.channels = λ id. has-map channel_id (without_role_overwrite role) (λ c. refl) id g.channels in
      record {
        empty = λ closed. absurd (cc (is_open, closed));
        everyone = λ _. still_role role g.id ne (h.everyone is_open);
        owner = λ _. members g.owner ∙ h.owner is_open;
        held = λ user other m found holds.
            let was = found-mapped member_id member_id (without_role role) (λ m. refl) user g.members m found in
            held_left role other m was.0 was.1.1 (λ r. h.held user r was.0 was.1.0) holds;
        overwritten = λ channel other c found there.
            let was = found-mapped channel_id channel_id (without_role_overwrite role) (λ c. refl) channel g.channels c found in
            overwritten_left role other c was.0 was.1.1 (h.overwritten channel other was.0 was.1.0) there;
        voices = λ user v found. let old = h.voices user v found in (members user ∙ old.0, channels v.channel ∙ old.1);
        presences = λ user there. members user ∙ h.presences user there;
        parents = λ thread t found.
            ap is_parent (find-map channel_id channel_id (without_role_overwrite role) (λ c. refl) t.parent g.channels) ∙ (same_parent role (find_id channel_id t.parent g.channels) ∙ h.parents thread t found);
        joined = λ thread user t found there. members user ∙ h.joined thread user t found there;
        apart = λ id there. h.apart id (sym (channels id) ∙ there);
        message_channels = All-weaker (λ (m : MessageHead). is_channel_or_thread g m.channel ≡ true) (λ (m : MessageHead). is_channel_or_thread (role_deleted g role) m.channel ≡ true)
            (λ m there. ap (λ b. b || has_id thread_id m.channel g.threads) (channels m.channel) ∙ there) g.messages h.message_channels;
      }

  -- a member goes
  still_member : (user other : ℕ) → (user == other) ≡ false → has_id member_id other g.members ≡ true → has_id member_id other (without_id member_id user g.members) ≡ true
  still_member user other ne there = grind (arith, has-without member_id user other g.members)

  joined_left : (user other : ℕ) (t x : Thread) → t ≡ without_user user x → (has_id thread_member_id other x.members ≡ true → has_id member_id other g.members ≡ true)
      → has_id thread_member_id other t.members ≡ true → has_id member_id other (without_id member_id user g.members) ≡ true
  joined_left user other t x e old there =
      let parts = has-left thread_member_id user other x.members (sym (ap (λ (t : Thread). has_id thread_member_id other t.members) e) ∙ there) in
      still_member user other parts.0 (old parts.1)

  pub member_gone : (user : ℕ) → member_remove_verdict g user ≡ None → IsConsistent (member_removed g user)
  member_gone user accepted =
      let ne : (user == g.owner) ≡ false = remove_other g user accepted in
      let threads : (id : ℕ) → has_id thread_id id (map (without_user user) g.threads) ≡ has_id thread_id id g.threads = λ id. has-map thread_id (without_user user) (λ t. refl) id g.threads in
      let thread_was = found-mapped thread_id thread_id (without_user user) (λ t. refl) in
      record {
        empty = λ closed. absurd (cc (is_open, closed));
        everyone = h.everyone;
        owner = λ _. still_member user g.owner ne (h.owner is_open);
        held = λ other role m found holds.
            let was = found-without member_id user other g.members m found in
            h.held other role m was.1 holds;
        overwritten = h.overwritten;
        voices = λ other v found.
            let was = found-without voice_id user other g.voices v found in
            let old = h.voices other v was.1 in
            (still_member user other was.0 old.0, old.1);
        presences = λ other there.
            let parts = has-left presence_id user other g.presences there in
            still_member user other parts.0 (h.presences other parts.1);
        parents = λ thread t found.
            let was = thread_was thread g.threads t found in
            ap (λ (t : Thread). is_parent (find_id channel_id t.parent g.channels)) was.1.1 ∙ h.parents thread was.0 was.1.0;
        joined = λ thread other t found there.
            let was = thread_was thread g.threads t found in
            joined_left user other t was.0 was.1.1 (h.joined thread other was.0 was.1.0) there;
        apart = λ id there. threads id ∙ h.apart id there;
        message_channels = All-weaker (λ (m : MessageHead). is_channel_or_thread g m.channel ≡ true) (λ (m : MessageHead). is_channel_or_thread (member_removed g user) m.channel ≡ true)
            (λ m there. ap (λ b. has_id channel_id m.channel g.channels || b) (threads m.channel) ∙ there) g.messages h.message_channels;
      }
