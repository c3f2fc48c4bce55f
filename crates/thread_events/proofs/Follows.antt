-- A client that is told what an edit of threads owes holds the view after it.
use Rattle.std.proofs.Common.{◌≡◌, ℕ, Bool, true, false, not, ◌||◌, List, [], ◌∷◌, ◌++◌, Option, Some, None, if◌then◌else◌, refl, sym, ap, subst, ◌∙◌, eq-eqb, length}
use Rattle.std.specs.Prelude.{◌==◌, All, is_some, option_map}
use Rattle.std.specs.Option.{option_map_or}
use Rattle.std.proofs.lemmas.List.Elements.{All-nil}
use Rattle.collections.specs.ById.{find_id, has_id, put_id, changed_id, without_id, keep_if}
use Rattle.collections.proofs.Finds.{key-found, find-put, find-changed}
use Rattle.collections.proofs.Filters.{changed-put}
use Rattle.perm_bits.specs.Bits.{has_bit}
use Rattle.intent_set.specs.Intents.{guilds}
use Rattle.guild_model.specs.declared.member.Member.{Member}
use Rattle.guild_model.specs.declared.thread.Thread.{Thread}
use Rattle.guild_model.specs.declared.thread.ThreadMember.{ThreadMember}
use Rattle.guild_model.specs.declared.verdict.Verdict.{Verdict}
use Rattle.guild_model.specs.declared.verdict.Verdict.TheVariants.{UnknownThread, IdTaken, Archived, NotArchived, InThread, NotInThread}
use Rattle.guild_model.specs.Record.{Record, member_id, channel_id, thread_id}
use Rattle.guild_model.specs.Ascending.{IsWell}
use Rattle.guild_model.specs.Consistent.{is_channel_or_thread}
use Rattle.guild_model.specs.Sight.{member_sees}
use Rattle.guild_model.specs.Tests.{refused_if, first_of, too_long, too_many, unknown_member, unknown_channel}
use Rattle.guild_model.proofs.Tests.{first_passes, not_refused, passed}
use Rattle.dispatch_types.specs.declared.viewer.Viewer.{Viewer}
use Rattle.dispatch_types.specs.declared.dispatch.Dispatch.{Dispatch}
use Rattle.dispatch_types.specs.declared.dispatch.Dispatch.TheVariants as dispatch
use Rattle.dispatch_types.specs.Objects.{thread_object, thread_member_object}
use Rattle.dispatch_types.specs.Projection.{is_active}
use Rattle.dispatch_types.specs.Fold.{Held, fold_from}
use Rattle.thread_edit.specs.declared.ThreadEdit.{ThreadEdit}
use Rattle.thread_edit.specs.declared.ThreadEdit.TheVariants as edit
use Rattle.thread_edit.specs.declared.thread_create.ThreadCreate.{ThreadCreate}
use Rattle.thread_edit.specs.declared.thread_rename.ThreadRename.{ThreadRename}
use Rattle.thread_edit.specs.declared.thread_join.ThreadJoin.{ThreadJoin}
use Rattle.thread_edit.specs.declared.thread_leave.ThreadLeave.{ThreadLeave}
use Rattle.thread_edit.specs.Threads.{is_archived, unknown_thread, not_active, too_many_active, wrong_kind, thread_create_verdict, thread_rename_verdict, new_thread, new_thread_member, thread_created, thread_renamed, thread_deleted, with_thread_name}
use Rattle.thread_edit.specs.Archives.{thread_archive_verdict, thread_unarchive_verdict, not_archived, with_archived, thread_archived, thread_unarchived}
use Rattle.thread_edit.specs.ThreadMembers.{is_in_thread, thread_join_verdict, thread_leave_verdict, with_joined, with_left, thread_joined, thread_left}
use Rattle.event_views.specs.Has.{Has}
use Rattle.event_views.specs.Threads.{membership, members_update, seen_thread, thread_creates, thread_updates, member_comes, thread_joins, thread_leaves}
use Rattle.event_views.proofs.Steps.{IsOf, asked-of, append-of}
use Rattle.event_views.proofs.Threads.{shows, unseen, follows-thread_comes, follows-thread_renamed, follows-thread_archived, follows-thread_goes, goes_unseen, follows-thread_joined, follows-thread_entered, follows-thread_left, left_unseen}
use Rattle.event_views.proofs.Unarchived.{follows-thread_unarchived}
use Rattle.thread_events.specs.Law.{ThreadEditKeeps}
use Rattle.thread_events.specs.Dispatches.{unarchived, deleted, joined, left, thread_dispatches}

-- the thread that is found, and whether it is active
record Found (s : Record) (thread : ℕ) (active : Bool) : Type 0 where
  there : Thread
  found : find_id thread_id thread s.threads ≡ Some there
  is : is_active there ≡ active

found_one : (s : Record) (thread : ℕ) (active : Bool) → has_id thread_id thread s.threads ≡ true → not (is_archived s thread) ≡ active → Found s thread active
found_one s thread active has state = by_case (find_id thread_id thread s.threads) refl has
  where
    by_case : (o : Option Thread) → find_id thread_id thread s.threads ≡ o → is_some o ≡ true → Found s thread active
    by_case None e there = absurd (cc)
    by_case (Some x) e there =
        record { there = x; found = e; is = subst (λ (o : Option Thread). not (option_map_or (λ (t : Thread). t.archived) o false) ≡ active) e state }

-- what the tests let through
known : (s : Record) (thread : ℕ) (tests : List (Option Verdict)) → first_of (unknown_thread s thread ∷ tests) ≡ None → (has_id thread_id thread s.threads ≡ true) × (first_of tests ≡ None)
known s thread tests e =
    let both = first_passes (unknown_thread s thread) tests e in
    (passed (has_id thread_id thread s.threads) UnknownThread both.0, both.1)

active_now : (s : Record) (thread : ℕ) (tests : List (Option Verdict)) → first_of (not_active s thread ∷ tests) ≡ None → not (is_archived s thread) ≡ true
active_now s thread tests e = ap not (not_refused (is_archived s thread) Archived (first_passes (not_active s thread) tests e).0)

module _ (s : Record) (v : Viewer) (h : Held) (me : Member) (well : IsWell s) (at_home : find_id member_id v.user s.members ≡ Some me) (asks : has_bit v.intents guilds ≡ true) (has : Has s v me h) where
  own : me.user.id ≡ v.user
  own = key-found member_id v.user s.members me at_home

  -- a thread that changes is put, and found as it is then
  changes : (thread : ℕ) (f : Thread → Thread) (x : Thread) (list : Option Thread → List Dispatch) → ((t : Thread) → (f t).id ≡ t.id) → find_id thread_id thread s.threads ≡ Some x
      → Has (record s { threads = put_id thread_id (f x) s.threads }) v me (fold_from v.intents s.id h (list (Some (f x))))
      → Has (record s { threads = changed_id thread_id thread f s.threads }) v me (fold_from v.intents s.id h (list (find_id thread_id thread (changed_id thread_id thread f s.threads))))
  changes thread f x list same found holds =
      subst (λ (ts : List Thread). Has (record s { threads = ts }) v me (fold_from v.intents s.id h (list (find_id thread_id thread (changed_id thread_id thread f s.threads))))) (sym (changed-put thread_id thread f x s.threads well.ascending.threads same found))
      (subst (λ (o : Option Thread). Has (record s { threads = put_id thread_id (f x) s.threads }) v me (fold_from v.intents s.id h (list o))) (sym finds) holds)
    where
      finds : find_id thread_id thread (changed_id thread_id thread f s.threads) ≡ Some (f x)
      finds =
          find-changed thread_id thread f same thread s.threads
          ∙ (ap (λ b. if b then option_map f (find_id thread_id thread s.threads) else find_id thread_id thread s.threads) (eq-eqb thread thread refl)
          ∙ ap (option_map f) found)

  by_its_id : (thread : ℕ) (x : Thread) → find_id thread_id thread s.threads ≡ Some x → find_id thread_id x.id s.threads ≡ Some x
  by_its_id thread x found = subst (λ (k : ℕ). find_id thread_id k s.threads ≡ Some x) (sym (key-found thread_id thread s.threads x found)) found

  follows-create : (e : ThreadCreate) → thread_create_verdict s e ≡ None
      → Has (thread_created s e) v me (fold_from v.intents s.id h (thread_creates s.id v true (seen_thread (thread_created s e) me e.thread)))
  follows-create e accepted =
      subst (λ (o : Option Thread). Has (thread_created s e) v me (fold_from v.intents s.id h (thread_creates s.id v true (keep_if (member_sees s me) o)))) (sym finds)
      (follows-thread_comes s v h me own asks well.ascending.threads t true refl (ap (keep_if (shows s v h me)) (absent (find_id thread_id e.thread s.threads) (new (has_id channel_id e.thread s.channels) _ free))) has)
    where
      t : Thread
      t = new_thread e

      finds : find_id thread_id e.thread (put_id thread_id t s.threads) ≡ Some t
      finds = find-put thread_id t e.thread s.threads ∙ ap (λ b. if b then Some t else find_id thread_id e.thread s.threads) (eq-eqb e.thread e.thread refl)

      free : is_channel_or_thread s e.thread ≡ false
      free = not_refused (is_channel_or_thread s e.thread) IdTaken (first_passes (refused_if (is_channel_or_thread s e.thread) IdTaken) (unknown_channel s e.parent ∷ wrong_kind s e.parent e.kind ∷ unknown_member s e.owner ∷ too_many_active s ∷ too_many 4096 (length s.threads) ∷ too_long 100 e.name ∷ []) accepted).0

      new : (a b : Bool) → (a || b) ≡ false → b ≡ false
      new true b is = absurd (cc)
      new false b is = is

      absent : (o : Option Thread) → is_some o ≡ false → o ≡ None
      absent None is = refl
      absent (Some x) is = absurd (cc)

  follows-rename : (e : ThreadRename) → thread_rename_verdict s e ≡ None
      → Has (thread_renamed s e) v me (fold_from v.intents s.id h (thread_updates s.id v (seen_thread (thread_renamed s e) me e.thread)))
  follows-rename e accepted =
      let tests = known s e.thread (not_active s e.thread ∷ too_long 100 e.name ∷ []) accepted in
      let one = found_one s e.thread true tests.0 (active_now s e.thread (too_long 100 e.name ∷ []) tests.1) in
      changes e.thread (with_thread_name e.name) one.there (λ (o : Option Thread). thread_updates s.id v (keep_if (member_sees s me) o)) (λ t. refl) one.found
      (follows-thread_renamed s v h me own asks well.ascending.threads one.there e.name (by_its_id e.thread one.there one.found) one.is has)

  follows-archive : (thread : ℕ) → thread_archive_verdict s thread ≡ None
      → Has (thread_archived s thread) v me (fold_from v.intents s.id h (thread_updates s.id v (seen_thread (thread_archived s thread) me thread)))
  follows-archive thread accepted =
      let tests = known s thread (not_active s thread ∷ []) accepted in
      let one = found_one s thread true tests.0 (active_now s thread [] tests.1) in
      changes thread (with_archived true) one.there (λ (o : Option Thread). thread_updates s.id v (keep_if (member_sees s me) o)) (λ t. refl) one.found
      (follows-thread_archived s v h me own asks well.ascending.threads one.there (by_its_id thread one.there one.found) has)

  follows-unarchive : (thread : ℕ) → thread_unarchive_verdict s thread ≡ None
      → Has (thread_unarchived s thread) v me (fold_from v.intents s.id h (unarchived (thread_unarchived s thread) v me thread))
  follows-unarchive thread accepted =
      let tests = known s thread (not_archived s thread ∷ too_many_active s ∷ []) accepted in
      let one = found_one s thread false tests.0 (not_refused (not (is_archived s thread)) NotArchived (first_passes (not_archived s thread) (too_many_active s ∷ []) tests.1).0) in
      changes thread (with_archived false) one.there (λ (o : Option Thread). thread_updates s.id v (keep_if (member_sees s me) o) ++ thread_joins s.id v v.user (keep_if (member_sees s me) o)) (λ t. refl) one.found
      (follows-thread_unarchived s v h me own asks well.ascending.threads one.there (by_its_id thread one.there one.found) one.is has)

  follows-delete : (thread : ℕ) → Has (thread_deleted s thread) v me (fold_from v.intents s.id h (deleted (seen_thread s me thread) s.id v thread))
  follows-delete thread = let gone = by_case (find_id thread_id thread s.threads) refl in record { bot = gone.bot; view = gone.view }
    where
      after : Record
      after = record s { threads = without_id thread_id thread s.threads }

      by_case : (o : Option Thread) → find_id thread_id thread s.threads ≡ o → Has after v me (fold_from v.intents s.id h (deleted (keep_if (member_sees s me) o) s.id v thread))
      by_case None e = goes_unseen s v h me own asks well.ascending.threads thread (ap (keep_if (shows s v h me)) e) has
      by_case (Some x) e = by_sight (member_sees s me x) refl
        where
          by_sight : (b : Bool) → member_sees s me x ≡ b → Has after v me (fold_from v.intents s.id h (deleted (if b then Some x else None) s.id v thread))
          by_sight true seen = follows-thread_goes s v h me own asks well.ascending.threads thread x.parent x.kind has
          by_sight false hidden =
              goes_unseen s v h me own asks well.ascending.threads thread
              (ap (keep_if (shows s v h me)) e ∙ ap (λ b. if b then Some x else None) (unseen s v h me own asks well.ascending.threads x hidden)) has

  follows-join : (e : ThreadJoin) → thread_join_verdict s e ≡ None
      → Has (thread_joined s e) v me (fold_from v.intents s.id h (joined (seen_thread s me e.thread) (thread_joined s e) v me e))
  follows-join e accepted =
      let tests = known s e.thread (unknown_member s e.user ∷ not_active s e.thread ∷ refused_if (is_in_thread s e.thread e.user) InThread ∷ []) accepted in
      let rest = first_passes (unknown_member s e.user) (not_active s e.thread ∷ refused_if (is_in_thread s e.thread e.user) InThread ∷ []) tests.1 in
      let one = found_one s e.thread true tests.0 (active_now s e.thread (refused_if (is_in_thread s e.thread e.user) InThread ∷ []) rest.1) in
      subst (λ (o : Option Thread). Has (thread_joined s e) v me (fold_from v.intents s.id h (joined (keep_if (member_sees s me) o) (thread_joined s e) v me e))) (sym one.found)
      (by_sight one.there one.found one.is (member_sees s me one.there) refl)
    where
      m : ThreadMember
      m = new_thread_member e.user e.at

      by_sight : (x : Thread) → find_id thread_id e.thread s.threads ≡ Some x → is_active x ≡ true → (b : Bool) → member_sees s me x ≡ b
          → Has (thread_joined s e) v me (fold_from v.intents s.id h (joined (if b then Some x else None) (thread_joined s e) v me e))
      by_sight x found active true seen =
          changes e.thread (with_joined e.user e.at) x (λ (o : Option Thread). thread_joins s.id v e.user o) (λ t. refl) found
          (follows-thread_joined s v h me own asks well.ascending.threads x (by_its_id e.thread x found) has.bot (new_thread_member e.user e.at) active seen has)
      by_sight x found active false hidden =
          changes e.thread (with_joined e.user e.at) x (λ (o : Option Thread). thread_creates s.id v false (keep_if (member_sees s me) o)) (λ t. refl) found
          (follows-thread_entered s v h me own asks well.ascending.threads x (by_its_id e.thread x found) has.bot (new_thread_member e.user e.at) active hidden has)

  follows-leave : (e : ThreadLeave) → thread_leave_verdict s e ≡ None
      → Has (thread_left s e) v me (fold_from v.intents s.id h (left (seen_thread s me e.thread) (thread_left s e) v e))
  follows-leave e accepted =
      let tests = known s e.thread (not_active s e.thread ∷ refused_if (not (is_in_thread s e.thread e.user)) NotInThread ∷ []) accepted in
      let one = found_one s e.thread true tests.0 (active_now s e.thread (refused_if (not (is_in_thread s e.thread e.user)) NotInThread ∷ []) tests.1) in
      subst (λ (o : Option Thread). Has (thread_left s e) v me (fold_from v.intents s.id h (left (keep_if (member_sees s me) o) (thread_left s e) v e))) (sym one.found)
      (by_sight one.there one.found one.is (member_sees s me one.there) refl)
    where
      by_sight : (x : Thread) → find_id thread_id e.thread s.threads ≡ Some x → is_active x ≡ true → (b : Bool) → member_sees s me x ≡ b
          → Has (thread_left s e) v me (fold_from v.intents s.id h (left (if b then Some x else None) (thread_left s e) v e))
      by_sight x found active true seen =
          changes e.thread (with_left e.user) x (λ (o : Option Thread). thread_leaves s.id v e.user o) (λ t. refl) found
          (follows-thread_left s v h me own asks well.ascending.threads x (by_its_id e.thread x found) has.bot e.user active seen has)
      by_sight x found active false hidden =
          changes e.thread (with_left e.user) x (λ (o : Option Thread). []) (λ t. refl) found
          (left_unseen s v h me own asks well.ascending.threads x (by_its_id e.thread x found) has.bot e.user (unseen s v h me own asks well.ascending.threads x hidden) has)

-- after what an edit of threads owes, the client holds the view after it
pub follows-thread : ThreadEditKeeps
follows-thread s v h me (edit.ThreadCreate e) well after opened accepted own asks has = follows-create s v h me well own asks has e accepted
follows-thread s v h me (edit.ThreadRename e) well after opened accepted own asks has = follows-rename s v h me well own asks has e accepted
follows-thread s v h me (edit.ThreadArchive thread) well after opened accepted own asks has = follows-archive s v h me well own asks has thread accepted
follows-thread s v h me (edit.ThreadUnarchive thread) well after opened accepted own asks has = follows-unarchive s v h me well own asks has thread accepted
follows-thread s v h me (edit.ThreadDelete thread) well after opened accepted own asks has = follows-delete s v h me well own asks has thread
follows-thread s v h me (edit.ThreadJoin e) well after opened accepted own asks has = follows-join s v h me well own asks has e accepted
follows-thread s v h me (edit.ThreadLeave e) well after opened accepted own asks has = follows-leave s v h me well own asks has e accepted

-- ---- each of the dispatches is of the guild

creates-of : (guild : ℕ) (v : Viewer) (newly : Bool) (o : Option Thread) → All (IsOf guild) (thread_creates guild v newly o)
creates-of guild v newly None = All-nil (IsOf guild)
creates-of guild v newly (Some t) = asked-of guild v false (dispatch.ThreadCreate (record { thread = thread_object guild t; newly_created = newly; member = option_map (thread_member_object t.id) (membership v.user t) })) refl

updates-of : (guild : ℕ) (v : Viewer) (o : Option Thread) → All (IsOf guild) (thread_updates guild v o)
updates-of guild v None = All-nil (IsOf guild)
updates-of guild v (Some t) = asked-of guild v false (dispatch.ThreadUpdate (thread_object guild t)) refl

joins-of : (guild : ℕ) (v : Viewer) (user : ℕ) (o : Option Thread) → All (IsOf guild) (thread_joins guild v user o)
joins-of guild v user None = All-nil (IsOf guild)
joins-of guild v user (Some t) = by_member (membership user t)
  where
    by_member : (o : Option ThreadMember) → All (IsOf guild) (member_comes guild v t o)
    by_member None = All-nil (IsOf guild)
    by_member (Some m) = asked-of guild v (m.user == v.user) (dispatch.ThreadMembersUpdate (members_update guild t (thread_member_object t.id m ∷ []) [])) refl

leaves-of : (guild : ℕ) (v : Viewer) (user : ℕ) (o : Option Thread) → All (IsOf guild) (thread_leaves guild v user o)
leaves-of guild v user None = All-nil (IsOf guild)
leaves-of guild v user (Some t) = asked-of guild v (user == v.user) (dispatch.ThreadMembersUpdate (members_update guild t [] (user ∷ []))) refl

deleted-of : (guild : ℕ) (v : Viewer) (thread : ℕ) (o : Option Thread) → All (IsOf guild) (deleted o guild v thread)
deleted-of guild v thread None = All-nil (IsOf guild)
deleted-of guild v thread (Some was) = asked-of guild v false (dispatch.ThreadDelete (record { guild = guild; id = thread; parent = was.parent; kind = was.kind })) refl

module _ (before : Record) (me : Member) (after : Record) (me' : Member) (v : Viewer) where
  joined-of : (e : ThreadJoin) (o : Option Thread) → All (IsOf after.id) (joined o after v me' e)
  joined-of e None = creates-of after.id v false (seen_thread after me' e.thread)
  joined-of e (Some was) = joins-of after.id v e.user (find_id thread_id e.thread after.threads)

  left-of : (e : ThreadLeave) (o : Option Thread) → All (IsOf after.id) (left o after v e)
  left-of e None = All-nil (IsOf after.id)
  left-of e (Some was) = leaves-of after.id v e.user (find_id thread_id e.thread after.threads)

  pub dispatches-of : (e : ThreadEdit) → All (IsOf after.id) (thread_dispatches before me after me' v e)
  dispatches-of (edit.ThreadCreate e) = creates-of after.id v true (seen_thread after me' e.thread)
  dispatches-of (edit.ThreadRename e) = updates-of after.id v (seen_thread after me' e.thread)
  dispatches-of (edit.ThreadArchive thread) = updates-of after.id v (seen_thread after me' thread)
  dispatches-of (edit.ThreadUnarchive thread) =
      append-of after.id (thread_updates after.id v (seen_thread after me' thread)) (thread_joins after.id v v.user (seen_thread after me' thread))
      (updates-of after.id v (seen_thread after me' thread)) (joins-of after.id v v.user (seen_thread after me' thread))
  dispatches-of (edit.ThreadDelete thread) = deleted-of after.id v thread (seen_thread before me thread)
  dispatches-of (edit.ThreadJoin e) = joined-of e (seen_thread before me e.thread)
  dispatches-of (edit.ThreadLeave e) = left-of e (seen_thread before me e.thread)
