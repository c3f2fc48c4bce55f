-- What a client holds of a thread that comes, changes or goes, and of a user that joins or leaves it.
use Rattle.std.proofs.Common.{◌≡◌, ℕ, Bool, true, false, not, ◌&&◌, ◌||◌, List, [], ◌∷◌, map, Option, Some, None, if◌then◌else◌, refl, sym, ap, subst, ◌∙◌, eq-eqb, arith}
use Rattle.std.specs.Prelude.{◌==◌, filter, is_some, min, length, option_map}
use Rattle.std.proofs.lemmas.Bool.{and_parts, not-true, or_parts}
use Rattle.std.specs.Option.{option_or}
use Rattle.collections.specs.ById.{find_id, put_id, without_id, IsById, keep_if}
use Rattle.collections.proofs.Finds.{find-put, find-without}
use Rattle.collections.proofs.Has.{has-without}
use Rattle.perm_bits.specs.Bits.{has_bit}
use Rattle.intent_set.specs.Intents.{guilds, guild_members}
use Rattle.guild_model.specs.declared.member.Member.{Member}
use Rattle.guild_model.specs.declared.thread.Thread.{Thread}
use Rattle.guild_model.specs.declared.thread.ThreadKind.{ThreadKind}
use Rattle.guild_model.specs.declared.thread.ThreadMember.{ThreadMember}
use Rattle.guild_model.specs.Record.{Record, thread_id, thread_member_id}
use Rattle.guild_model.specs.Sight.{is_in, is_private, sees_in, standing, member_sees}
use Rattle.dispatch_types.specs.declared.viewer.Viewer.{Viewer}
use Rattle.dispatch_types.specs.declared.threads.ThreadObject.{ThreadObject}
use Rattle.dispatch_types.specs.declared.threads.ThreadMemberObject.{ThreadMemberObject}
use Rattle.dispatch_types.specs.declared.view.OpenView.{OpenView}
use Rattle.dispatch_types.specs.declared.view.ThreadView.{ThreadView}
use Rattle.dispatch_types.specs.declared.view.GuildView.TheVariants.{Open}
use Rattle.dispatch_types.specs.declared.dispatch.Dispatch.{Dispatch}
use Rattle.dispatch_types.specs.declared.dispatch.Dispatch.TheVariants.{ThreadCreate, ThreadUpdate, ThreadDelete, ThreadMembersUpdate}
use Rattle.dispatch_types.specs.Objects.{thread_object, thread_member_object, thread_member_of}
use Rattle.dispatch_types.specs.Projection.{told, is_active, thread_view, open_view}
use Rattle.dispatch_types.specs.Fold.{Held, thread_view_id, on_open, thread_of, mine_of, set_thread, drop_thread, update_thread, members_updated, view_sees, folded, fold_from}
use Rattle.dispatch_types.proofs.Folds.{folded-here, folded-over}
use Rattle.event_views.specs.Asked.{asked}
use Rattle.event_views.specs.Has.{Has}
use Rattle.event_views.specs.Threads.{membership, members_update, thread_creates, thread_updates, member_comes, thread_joins, thread_leaves}
use Rattle.event_views.proofs.Steps.{same, turned, step, whole, untold, by_asked, by_guilds}
use Rattle.event_views.proofs.Lists.{told-same}
use Rattle.event_views.proofs.Shown.{IsById-shown, find-shown, shown-put, shown-tested, shown-hidden, shown-dropped, shown-alike, shown-without, shown-without_hidden, mapped-put}

-- a membership that is sent and read back
member-back : (thread : ℕ) (o : Option ThreadMember) → option_map thread_member_of (option_map (thread_member_object thread) o) ≡ o
member-back thread None = refl
member-back thread (Some m) = refl

-- a thread with other users in it
abbrev with_users : Thread → List ThreadMember → Thread
with_users x ms = record x { members = ms }

abbrev pub with_member : ThreadMember → Thread → Thread
with_member m x = record x { members = put_id thread_member_id m x.members }

abbrev pub without_member : ℕ → Thread → Thread
without_member user x = record x { members = without_id thread_member_id user x.members }

-- both of what is tested
second_false : (a b : Bool) → a ≡ true → (a && b) ≡ false → b ≡ false
second_false true b is e = e
second_false false b is e = absurd (cc)

module _ (s : Record) (v : Viewer) (h : Held) (me : Member) where
  -- the threads of the viewer's view, where these are the guild's
  abbrev pub shows : Thread → Bool
  shows t = is_active t && member_sees s me t

  abbrev pub views : List Thread → List ThreadView
  views ts = map (thread_view v.intents me.user.id) (filter shows ts)

  abbrev pub with_threads : List Thread → Record
  with_threads ts = record s { threads = ts }

  abbrev pub viewing : List ThreadView → OpenView
  viewing ts = record (open_view s v.intents h.known me) { threads = ts }

  abbrev client_sees : ThreadView → Bool
  client_sees = view_sees v.intents s.id (open_view s v.intents h.known me)

  -- a dispatch after which the client purges
  purges : (ts : List Thread) (d : Dispatch) (f : List ThreadView → List ThreadView)
      → folded v.intents s.id h d ≡ turned v.intents s.id (λ (w : OpenView). record w { threads = f w.threads }) same h
      → filter client_sees (f (views s.threads)) ≡ views ts
      → Has s v me h → Has (with_threads ts) v me (folded v.intents s.id h d)
  purges ts d f makes turns has =
      step s (with_threads ts) v h me me d (λ (w : OpenView). record w { threads = f w.threads }) same makes (ap viewing turns) has

  -- and one that gives the threads after it whole
  brings : (ts : List Thread) (d : Dispatch) (f : List ThreadView → List ThreadView)
      → folded v.intents s.id h d ≡ turned v.intents s.id (λ (w : OpenView). record w { threads = f w.threads }) same h
      → f (views s.threads) ≡ views ts
      → Has s v me h → Has (with_threads ts) v me (folded v.intents s.id h d)
  brings ts d f makes turns has =
      whole s (with_threads ts) v h me me d (λ (w : OpenView). record w { threads = f w.threads }) same refl makes (ap viewing turns) has

  pub stays_silent : (ts : List Thread) → views s.threads ≡ views ts → Has s v me h → Has (with_threads ts) v me h
  stays_silent ts turns has = untold s (with_threads ts) v h me me (ap viewing turns) has

  module _ (own : me.user.id ≡ v.user) (asks : has_bit v.intents guilds ≡ true) (ascends : IsById thread_id s.threads) where
    abbrev pub as_view : Thread → ThreadView
    as_view t = thread_view v.intents me.user.id t

    passes_client : (t : Thread) → shows t ≡ true → client_sees (as_view t) ≡ true
    passes_client t e = (and_parts (is_active t) (member_sees s me t) e).1

    pub tested : (x : Thread) → is_active x ≡ true → filter client_sees (put_id thread_view_id (as_view x) (views s.threads)) ≡ views (put_id thread_id x s.threads)
    tested x active = shown-tested thread_id thread_view_id as_view (λ t. refl) shows client_sees x s.threads ascends passes_client (ap (λ b. b && member_sees s me x) active)

    pub unseen : (x : Thread) → member_sees s me x ≡ false → shows x ≡ false
    unseen x e = ap (λ b. is_active x && b) e ∙ no (is_active x)
      where
        no : (b : Bool) → (b && false) ≡ false
        no true = refl
        no false = refl

    -- ---- a thread that comes

    pub follows-thread_comes : (x : Thread) (newly : Bool) → is_active x ≡ true → keep_if shows (find_id thread_id x.id s.threads) ≡ None
        → Has s v me h → Has (with_threads (put_id thread_id x s.threads)) v me (fold_from v.intents s.id h (thread_creates s.id v newly (keep_if (member_sees s me) (Some x))))
    follows-thread_comes x newly active none has = by_sight (member_sees s me x) refl
      where
        after : Record
        after = with_threads (put_id thread_id x s.threads)

        mine : Option ThreadMemberObject
        mine = option_map (thread_member_object x.id) (membership v.user x)

        create : Dispatch
        create = ThreadCreate (record { thread = thread_object s.id x; newly_created = newly; member = mine })

        brought : ThreadView
        brought = thread_of v.intents (option_map thread_member_of mine) (thread_object s.id x)

        as_brought : brought ≡ as_view x
        as_brought =
            ap (λ (m : Option ThreadMember). record (as_view x) { mine = m }) (member-back x.id (membership v.user x) ∙ ap (λ (u : ℕ). membership u x) (sym own))

        by_sight : (b : Bool) → member_sees s me x ≡ b → Has after v me (fold_from v.intents s.id h (thread_creates s.id v newly (if b then Some x else None)))
        by_sight true seen =
            by_guilds after v s.id h me false create asks refl
            (purges _ create (put_id thread_view_id brought) (folded-here v.intents s.id h create refl refl)
            (ap (λ (t : ThreadView). filter client_sees (put_id thread_view_id t (views s.threads))) as_brought ∙ tested x active) has)
        by_sight false hidden = stays_silent _ (shown-hidden thread_id thread_view_id as_view (λ t. refl) shows x s.threads ascends (unseen x hidden) none) has

    -- ---- a thread that is there

    pub shows-seen : (x : Thread) → is_active x ≡ true → member_sees s me x ≡ true → shows x ≡ true
    shows-seen x active seen = ap (λ b. b && member_sees s me x) active ∙ seen

    pub hidden_there : (x : Thread) → find_id thread_id x.id s.threads ≡ Some x → shows x ≡ false → keep_if shows (find_id thread_id x.id s.threads) ≡ None
    hidden_there x found hides = ap (keep_if shows) found ∙ ap (λ b. if b then Some x else None) hides

    pub held_there : (x : Thread) → find_id thread_id x.id s.threads ≡ Some x → find_id thread_view_id x.id (views s.threads) ≡ (if shows x then Some (as_view x) else None)
    held_there x found =
        find-shown thread_id thread_view_id as_view (λ t. refl) shows x.id s.threads ascends
        ∙ (ap (λ o. option_map as_view (keep_if shows o)) found ∙ by_test (shows x))
      where
        by_test : (b : Bool) → option_map as_view (if b then Some x else None) ≡ (if b then Some (as_view x) else None)
        by_test true = refl
        by_test false = refl

    held : (x : Thread) → find_id thread_id x.id s.threads ≡ Some x → shows x ≡ true → find_id thread_view_id x.id (views s.threads) ≡ Some (as_view x)
    held x found passes = held_there x found ∙ ap (λ b. if b then Some (as_view x) else None) passes

    -- after THREAD_UPDATE
    pub updates : (o : ThreadObject) → o.guild ≡ s.id → (w : OpenView) → update_thread v.intents o (open_view s v.intents h.known me) ≡ w
        → Has s v me h → folded v.intents s.id h (ThreadUpdate o) ≡ record h { view = Some (Open w) }
    updates o here w turns has =
        folded-over v.intents s.id h (ThreadUpdate o) (ap Some here) refl
        ∙ ap (λ view. record h { view = view }) (ap (on_open (update_thread v.intents o)) has.view ∙ ap (λ (w : OpenView). Some (Open w)) turns)

    brings_update : (ts : List Thread) (o : ThreadObject) → o.guild ≡ s.id → update_thread v.intents o (open_view s v.intents h.known me) ≡ viewing (views ts)
        → Has s v me h → Has (with_threads ts) v me (folded v.intents s.id h (ThreadUpdate o))
    brings_update ts o here turns has =
        subst (λ (k : Held). Has (with_threads ts) v me k) (sym (updates o here (viewing (views ts)) turns has)) (record { bot = has.bot; view = refl })

    -- an active thread is set, with the own membership that the client holds
    pub sets : (o : ThreadObject) (mine : Option ThreadMember) → o.archived ≡ false → mine_of (find_id thread_view_id o.id (views s.threads)) ≡ mine
        → update_thread v.intents o (open_view s v.intents h.known me) ≡ viewing (put_id thread_view_id (thread_of v.intents mine o) (views s.threads))
    sets o mine active has_mine =
        ap (λ b. if b then drop_thread o.id (open_view s v.intents h.known me) else set_thread (thread_of v.intents (mine_of (find_id thread_view_id o.id (views s.threads))) o) (open_view s v.intents h.known me)) active
        ∙ ap (λ (m : Option ThreadMember). viewing (put_id thread_view_id (thread_of v.intents m o) (views s.threads))) has_mine

    not_archived : (x : Thread) → is_active x ≡ true → x.archived ≡ false
    not_archived x active = not-true x.archived active

    pub follows-thread_renamed : (x : Thread) (name : List ℕ) → find_id thread_id x.id s.threads ≡ Some x → is_active x ≡ true
        → Has s v me h → Has (with_threads (put_id thread_id (record x { name = name }) s.threads)) v me (fold_from v.intents s.id h (thread_updates s.id v (keep_if (member_sees s me) (Some (record x { name = name })))))
    follows-thread_renamed x name found active has = by_sight (member_sees s me x) refl
      where
        renamed : Thread
        renamed = record x { name = name }

        after : Record
        after = with_threads (put_id thread_id renamed s.threads)

        by_sight : (b : Bool) → member_sees s me x ≡ b → Has after v me (fold_from v.intents s.id h (thread_updates s.id v (if b then Some renamed else None)))
        by_sight true seen =
            let passes : shows x ≡ true = shows-seen x active seen in
            by_guilds after v s.id h me false (ThreadUpdate (thread_object s.id renamed)) asks refl
            (brings_update _ (thread_object s.id renamed) refl
            (sets (thread_object s.id renamed) (as_view x).mine (not_archived x active) (ap mine_of (held x found passes))
            ∙ ap viewing (shown-put thread_id thread_view_id as_view (λ t. refl) shows renamed s.threads ascends passes)) has)
        by_sight false hidden = stays_silent _ (shown-hidden thread_id thread_view_id as_view (λ t. refl) shows renamed s.threads ascends (unseen x hidden) (hidden_there x found (unseen x hidden))) has

    -- an archived thread is in no view
    pub follows-thread_archived : (x : Thread) → find_id thread_id x.id s.threads ≡ Some x
        → Has s v me h → Has (with_threads (put_id thread_id (record x { archived = true }) s.threads)) v me (fold_from v.intents s.id h (thread_updates s.id v (keep_if (member_sees s me) (Some (record x { archived = true })))))
    follows-thread_archived x found has = by_sight (member_sees s me x) refl
      where
        archived : Thread
        archived = record x { archived = true }

        after : Record
        after = with_threads (put_id thread_id archived s.threads)

        by_sight : (b : Bool) → member_sees s me x ≡ b → Has after v me (fold_from v.intents s.id h (thread_updates s.id v (if b then Some archived else None)))
        by_sight true seen =
            by_guilds after v s.id h me false (ThreadUpdate (thread_object s.id archived)) asks refl
            (brings_update _ (thread_object s.id archived) refl
            (ap viewing (shown-dropped thread_id thread_view_id as_view (λ t. refl) shows archived s.threads ascends refl)) has)
        by_sight false hidden = stays_silent _ (shown-hidden thread_id thread_view_id as_view (λ t. refl) shows archived s.threads ascends refl (hidden_there x found (unseen x hidden))) has

    -- a thread that goes is told by its id, and where it is not shown nothing need be told
    pub follows-thread_goes : (id parent : ℕ) (kind : ThreadKind)
        → Has s v me h → Has (with_threads (without_id thread_id id s.threads)) v me (fold_from v.intents s.id h (asked v false (ThreadDelete (record { guild = s.id; id = id; parent = parent; kind = kind }))))
    follows-thread_goes id parent kind has =
        by_guilds (with_threads (without_id thread_id id s.threads)) v s.id h me false delete asks refl
        (brings _ delete (without_id thread_view_id id) (folded-here v.intents s.id h delete refl refl)
        (shown-without thread_id thread_view_id as_view (λ t. refl) shows id s.threads ascends) has)
      where
        delete : Dispatch
        delete = ThreadDelete (record { guild = s.id; id = id; parent = parent; kind = kind })

    pub goes_unseen : (id : ℕ) → keep_if shows (find_id thread_id id s.threads) ≡ None → Has s v me h → Has (with_threads (without_id thread_id id s.threads)) v me h
    goes_unseen id none has = stays_silent _ (shown-without_hidden thread_id thread_view_id as_view (λ t. refl) shows id s.threads ascends none) has

    -- ---- users that join and leave

    -- THREAD_MEMBERS_UPDATE of a thread that is held, which makes its view the view of the thread after it
    members_told : (x y : Thread) (added : List ThreadMemberObject) (removed : List ℕ) (is_own : Bool) → y.id ≡ x.id → is_active y ≡ true
        → find_id thread_id x.id s.threads ≡ Some x → shows x ≡ true
        → members_updated v.intents h.bot (members_update s.id y added removed) (as_view x) ≡ as_view y
        → (is_own ≡ false → has_bit v.intents guild_members ≡ false → (as_view x ≡ as_view y) × (shows x ≡ shows y))
        → Has s v me h → Has (with_threads (put_id thread_id y s.threads)) v me (fold_from v.intents s.id h (asked v is_own (ThreadMembersUpdate (members_update s.id y added removed))))
    members_told x y added removed is_own at active found passes becomes alike has =
        by_asked after v s.id h me is_own d tells keeps_silent
      where
        after : Record
        after = with_threads (put_id thread_id y s.threads)

        d : Dispatch
        d = ThreadMembersUpdate (members_update s.id y added removed)

        change : ThreadView → ThreadView
        change = members_updated v.intents h.bot (members_update s.id y added removed)

        changes : List ThreadView → List ThreadView
        changes ts = map (λ (t : ThreadView). if t.id == y.id then change t else t) ts

        tells : (has_bit v.intents guilds && (is_own || has_bit v.intents guild_members)) ≡ true → Has after v me (folded v.intents s.id h d)
        tells e =
            purges _ d changes (folded-here v.intents s.id h d refl refl)
            (ap (filter client_sees)
            (mapped-put thread_view_id y.id change (as_view x) (views s.threads) (IsById-shown thread_id thread_view_id as_view (λ t. refl) shows s.threads ascends) (λ t. refl) (subst (λ (k : ℕ). find_id thread_view_id k (views s.threads) ≡ Some (as_view x)) (sym at) (held x found passes))
            ∙ ap (λ (t : ThreadView). put_id thread_view_id t (views s.threads)) becomes)
            ∙ tested y active) has

        keeps_silent : (has_bit v.intents guilds && (is_own || has_bit v.intents guild_members)) ≡ false → Has after v me h
        keeps_silent e =
            let neither = or_parts is_own (has_bit v.intents guild_members) (second_false (has_bit v.intents guilds) _ asks e) in
            let same_view = alike neither.0 neither.1 in
            stays_silent _ (shown-alike thread_id thread_view_id as_view (λ t. refl) shows y x s.threads ascends (subst (λ (k : ℕ). find_id thread_id k s.threads ≡ Some x) (sym at) found) same_view.0 same_view.1) has

    -- of other users' coming and going nothing is seen without their intent
    looks_alike : (x : Thread) (ms : List ThreadMember) → has_bit v.intents guild_members ≡ false → find_id thread_member_id me.user.id ms ≡ find_id thread_member_id me.user.id x.members
        → (as_view x ≡ as_view (with_users x ms)) × (shows x ≡ shows (with_users x ms))
    looks_alike x ms blind mine =
        let count : told v.intents guild_members (min 50 (length x.members)) ≡ told v.intents guild_members (min 50 (length ms)) = told-same v.intents guild_members _ _ (λ e. absurd (cc)) in (
          ap (λ (m : Option ThreadMember). record (as_view x) { mine = m }) (sym mine) ∙ ap (λ (c : Option ℕ). record (as_view (with_users x ms)) { count = c }) count,
          ap (λ (m : Option ThreadMember). is_active x && sees_in (standing s me) x.parent x.kind (is_some m)) (sym mine),
        )

    module _ (x : Thread) (found : find_id thread_id x.id s.threads ≡ Some x) (bot : h.bot ≡ v.user) where
      bot-own : h.bot ≡ me.user.id
      bot-own = bot ∙ sym own

      joins_view : (m : ThreadMember) → members_updated v.intents h.bot (members_update s.id (with_member m x) (thread_member_object x.id m ∷ []) []) (as_view x) ≡ as_view (with_member m x)
      joins_view m = ap (λ (o : Option ThreadMember). record (as_view (with_member m x)) { mine = o }) has_mine
        where
          by_user : (b : Bool) (o : Option ThreadMember) → option_or (option_map thread_member_of (if b then Some (thread_member_object x.id m) else None)) o ≡ (if b then Some m else o)
          by_user true o = refl
          by_user false o = refl

          has_mine : option_or (option_map thread_member_of (if m.user == h.bot then Some (thread_member_object x.id m) else None)) (as_view x).mine ≡ find_id thread_member_id me.user.id (put_id thread_member_id m x.members)
          has_mine =
              by_user (m.user == h.bot) (as_view x).mine
              ∙ (ap (λ u. if m.user == u then Some m else (as_view x).mine) bot-own ∙ sym (find-put thread_member_id m me.user.id x.members))

      leaves_view : (user : ℕ) → members_updated v.intents h.bot (members_update s.id (without_member user x) [] (user ∷ [])) (as_view x) ≡ as_view (without_member user x)
      leaves_view user = ap (λ (o : Option ThreadMember). record (as_view (without_member user x)) { mine = o }) has_mine
        where
          by_user : (b : Bool) (o : Option ThreadMember) → (if (b || false) then None else o) ≡ (if b then None else o)
          by_user true o = refl
          by_user false o = refl

          has_mine : (if ((user == h.bot) || false) then None else (as_view x).mine) ≡ find_id thread_member_id me.user.id (without_id thread_member_id user x.members)
          has_mine =
              by_user (user == h.bot) (as_view x).mine
              ∙ (ap (λ u. if user == u then None else (as_view x).mine) bot-own ∙ sym (find-without thread_member_id user me.user.id x.members))

      -- a user that joins a thread that was seen
      pub follows-thread_joined : (m : ThreadMember) → is_active x ≡ true → member_sees s me x ≡ true
          → Has s v me h → Has (with_threads (put_id thread_id (with_member m x) s.threads)) v me (fold_from v.intents s.id h (thread_joins s.id v m.user (Some (with_member m x))))
      follows-thread_joined m active seen has =
          subst (λ (o : Option ThreadMember). Has (with_threads (put_id thread_id (with_member m x) s.threads)) v me (fold_from v.intents s.id h (member_comes s.id v (with_member m x) o))) (sym is_there)
          (members_told x (with_member m x) (thread_member_object x.id m ∷ []) [] (m.user == v.user) refl active found (shows-seen x active seen) (joins_view m)
          (λ other blind. looks_alike x (put_id thread_member_id m x.members) blind
          (find-put thread_member_id m me.user.id x.members ∙ ap (λ b. if b then Some m else find_id thread_member_id me.user.id x.members) (ap (λ u. m.user == u) own ∙ other))) has)
        where
          is_there : membership m.user (with_member m x) ≡ Some m
          is_there = find-put thread_member_id m m.user x.members ∙ ap (λ b. if b then Some m else find_id thread_member_id m.user x.members) (eq-eqb m.user m.user refl)

      -- a thread that was not seen comes into sight, or does not
      pub follows-thread_entered : (m : ThreadMember) → is_active x ≡ true → member_sees s me x ≡ false
          → Has s v me h → Has (with_threads (put_id thread_id (with_member m x) s.threads)) v me (fold_from v.intents s.id h (thread_creates s.id v false (keep_if (member_sees s me) (Some (with_member m x)))))
      follows-thread_entered m active hidden has = follows-thread_comes (with_member m x) false active (hidden_there x found (unseen x hidden)) has

      -- a user that leaves a thread that was seen
      pub follows-thread_left : (user : ℕ) → is_active x ≡ true → member_sees s me x ≡ true
          → Has s v me h → Has (with_threads (put_id thread_id (without_member user x) s.threads)) v me (fold_from v.intents s.id h (thread_leaves s.id v user (Some (without_member user x))))
      follows-thread_left user active seen has =
          members_told x (without_member user x) [] (user ∷ []) (user == v.user) refl active found (shows-seen x active seen) (leaves_view user)
          (λ other blind. looks_alike x (without_id thread_member_id user x.members) blind
          (find-without thread_member_id user me.user.id x.members ∙ ap (λ b. if b then None else find_id thread_member_id me.user.id x.members) (ap (λ u. user == u) own ∙ other))) has

      -- and one that was not shown stays so
      pub left_unseen : (user : ℕ) → shows x ≡ false → Has s v me h → Has (with_threads (put_id thread_id (without_member user x) s.threads)) v me h
      left_unseen user hidden has =
          stays_silent _ (shown-hidden thread_id thread_view_id as_view (λ t. refl) shows (without_member user x) s.threads ascends still (hidden_there x found hidden)) has
        where
          less : (active views public manages joined gone : Bool) → (active && (views && (public || joined || manages))) ≡ false → (active && (views && (public || (not gone && joined) || manages))) ≡ false
          less active views public manages joined gone e = grind (arith, e)

          still : shows (without_member user x) ≡ false
          still =
              ap (λ j. is_active x && sees_in (standing s me) x.parent x.kind j) (has-without thread_member_id user me.user.id x.members)
              ∙ less (is_active x) _ (not (is_private x.kind)) _ (is_in me.user.id x) (user == me.user.id) hidden
