-- A record in which the lists hold together stays so under each edit of threads.
use Rattle.std.proofs.Common.{◌≡◌, ℕ, Bool, true, false, not, ◌||◌, List, [], ◌∷◌, Option, Some, None, if◌then◌else◌, refl, sym, ap, ◌∙◌, subst, arith, length}
use Rattle.std.specs.Prelude.{◌==◌, All, slice_index_or, is_some, option_map, filter}
use Rattle.std.proofs.lemmas.Bool.{and_from, and_right, not_from_false, or_parts}
use Rattle.std.proofs.lemmas.Bool.Decides.{nat_tests}
use Rattle.std.proofs.lemmas.List.Elements.{All-weaker, All-filter, filter_passes}
use Rattle.collections.specs.ById.{find_id, has_id, put_id, changed_id, without_id}
use Rattle.collections.proofs.Finds.{find-put, find-changed, found-without}
use Rattle.collections.proofs.Has.{has-put, has-kept, has-left, has-without, has-changed, changed_alike}
use Rattle.guild_model.specs.declared.channel.Channel.{Channel}
use Rattle.guild_model.specs.declared.channel.ChannelKind.{ChannelKind}
use Rattle.guild_model.specs.declared.channel.ChannelKind.TheVariants as channel
use Rattle.guild_model.specs.declared.thread.Thread.{Thread}
use Rattle.guild_model.specs.declared.thread.ThreadMember.{ThreadMember}
use Rattle.guild_model.specs.declared.thread.ThreadKind.{ThreadKind}
use Rattle.guild_model.specs.declared.message.MessageHead.{MessageHead}
use Rattle.guild_model.specs.declared.verdict.Verdict.TheVariants.{UnknownMember, IdTaken, WrongType, InThread}
use Rattle.guild_model.specs.Record.{Record, member_id, channel_id, thread_id, thread_member_id}
use Rattle.guild_model.specs.Consistent.{IsConsistent, has_threads, is_parent, is_channel_or_thread}
use Rattle.guild_model.specs.Tests.{refused_if, too_long, too_many, unknown_member, unknown_channel}
use Rattle.guild_model.proofs.Tests.{first_passes, not_refused, passed}
use Rattle.thread_edit.specs.declared.thread_create.ThreadCreate.{ThreadCreate}
use Rattle.thread_edit.specs.declared.thread_join.ThreadJoin.{ThreadJoin}
use Rattle.thread_edit.specs.declared.thread_leave.ThreadLeave.{ThreadLeave}
use Rattle.thread_edit.specs.declared.thread_rename.ThreadRename.{ThreadRename}
use Rattle.thread_edit.specs.Threads.{takes_thread, takes_there, unknown_thread, not_active, wrong_kind, too_many_active, thread_create_verdict, new_thread_member, new_thread, thread_created, thread_changed, thread_renamed, with_thread_name, stands_elsewhere, thread_deleted}
use Rattle.thread_edit.specs.Archives.{with_archived}
use Rattle.thread_edit.specs.ThreadMembers.{is_in_thread, thread_join_verdict, with_joined, thread_joined, with_left, thread_left, members_with, with_members}

-- what the tests let through
record MayCome (g : Record) (edit : ThreadCreate) : Type 0 where
  free : is_channel_or_thread g edit.thread ≡ false
  fits : is_parent (find_id channel_id edit.parent g.channels) ≡ true
  member : has_id member_id edit.owner g.members ≡ true

takes_has : (c : ChannelKind) (kind : ThreadKind) → takes_thread c kind ≡ true → has_threads c ≡ true
takes_has channel.Text kind e = refl
takes_has channel.Announcement kind e = refl
takes_has channel.Forum kind e = refl
takes_has channel.Voice kind e = absurd (cc)
takes_has channel.Category kind e = absurd (cc)
takes_has channel.Stage kind e = absurd (cc)

takes_parent : (kind : ThreadKind) (o : Option Channel) → takes_there kind o ≡ true → is_parent o ≡ true
takes_parent kind None e = absurd (cc)
takes_parent kind (Some c) e = takes_has c.kind kind e

may_come : (g : Record) (edit : ThreadCreate) → thread_create_verdict g edit ≡ None → MayCome g edit
may_come g edit e =
    let limits = too_many_active g ∷ too_many 4096 (length g.threads) ∷ too_long 100 edit.name ∷ [] in
    let channel = unknown_channel g edit.parent in
    let kind = wrong_kind g edit.parent edit.kind in
    let owner = unknown_member g edit.owner in
    let first = first_passes (refused_if (is_channel_or_thread g edit.thread) IdTaken) (channel ∷ kind ∷ owner ∷ limits) e in
    let second = first_passes channel (kind ∷ owner ∷ limits) first.1 in
    let third = first_passes kind (owner ∷ limits) second.1 in
    let fourth = first_passes owner limits third.1 in
    let there = find_id channel_id edit.parent g.channels in
    record {
      free = not_refused (is_channel_or_thread g edit.thread) IdTaken first.0;
      fits = takes_parent edit.kind there (passed (takes_there edit.kind there) WrongType third.0);
      member = passed (has_id member_id edit.owner g.members) UnknownMember fourth.0;
    }

may_join : (g : Record) (edit : ThreadJoin) → thread_join_verdict g edit ≡ None → has_id member_id edit.user g.members ≡ true
may_join g edit e =
    let rest = not_active g edit.thread ∷ refused_if (is_in_thread g edit.thread edit.user) InThread ∷ [] in
    let first = first_passes (unknown_thread g edit.thread) (unknown_member g edit.user ∷ rest) e in
    let second = first_passes (unknown_member g edit.user) rest first.1 in
    passed (has_id member_id edit.user g.members) UnknownMember second.0

-- a thread is given its members and one more
pub joined_as : (g : Record) (edit : ThreadJoin) (ms : List ThreadMember) → ms ≡ members_with g edit.thread (new_thread_member edit.user edit.at)
    → thread_changed g edit.thread (with_members ms) ≡ thread_joined g edit
joined_as g edit ms e =
    let same : changed_id thread_id edit.thread (with_members ms) g.threads ≡ changed_id thread_id edit.thread (with_joined edit.user edit.at) g.threads =
    changed_alike thread_id edit.thread _ _ g.threads (λ t found. rw (e, found) refl) in
    ap (λ ts. record g { threads = ts }) same

module _ (g : Record) (is_open : g.opened ≡ true) (h : IsConsistent g) where
  -- what holds of each thread: its parent has threads, and those in it are members
  record Fits (t : Thread) : Type 0 where
    parent : is_parent (find_id channel_id t.parent g.channels) ≡ true
    joined : (user : ℕ) → has_id thread_member_id user t.members ≡ true → has_id member_id user g.members ≡ true

  fits : (thread : ℕ) (t : Thread) → find_id thread_id thread g.threads ≡ Some t → Fits t
  fits thread t found = record { parent = h.parents thread t found; joined = λ user. h.joined thread user t found }

  -- threads and messages have changed
  threads_changed : (ts : List Thread) (ms : List MessageHead) → ((thread : ℕ) (t : Thread) → find_id thread_id thread ts ≡ Some t → Fits t)
      → ((id : ℕ) → has_id channel_id id g.channels ≡ true → has_id thread_id id ts ≡ false)
      → All (λ (m : MessageHead). is_channel_or_thread (record g { threads = ts; messages = ms }) m.channel ≡ true) ms
      → IsConsistent (record g { threads = ts; messages = ms })
  threads_changed ts ms fit apart message_channels = record {
    empty = λ closed. absurd (cc (is_open, closed));
    everyone = h.everyone;
    owner = h.owner;
    held = h.held;
    overwritten = h.overwritten;
    voices = h.voices;
    presences = h.presences;
    parents = λ thread t found. let f = fit thread t found in f.parent;
    joined = λ thread user t found there. let f = fit thread t found in f.joined user there;
    apart = apart;
    message_channels = message_channels;
  }

  or_right : (a b c : Bool) → (b ≡ true → c ≡ true) → (a || b) ≡ true → (a || c) ≡ true
  or_right true b c more e = refl
  or_right false b c more e = more e

  -- each message still stands somewhere where no thread has gone
  still_there : (ts : List Thread) → ((id : ℕ) → has_id thread_id id g.threads ≡ true → has_id thread_id id ts ≡ true)
      → All (λ (m : MessageHead). is_channel_or_thread (record g { threads = ts; messages = g.messages }) m.channel ≡ true) g.messages
  still_there ts more =
      All-weaker (λ (m : MessageHead). is_channel_or_thread g m.channel ≡ true) (λ (m : MessageHead). is_channel_or_thread (record g { threads = ts; messages = g.messages }) m.channel ≡ true)
      (λ m there. or_right (has_id channel_id m.channel g.channels) (has_id thread_id m.channel g.threads) (has_id thread_id m.channel ts) (more m.channel) there) g.messages h.message_channels

  -- a thread comes
  fits_put : (b : Bool) (t n : Thread) (o : Option Thread) → Fits n → (o ≡ Some t → Fits t) → (if b then Some n else o) ≡ Some t → Fits t
  fits_put true t n o new old e = let same : n ≡ t = cc in subst Fits same new
  fits_put false t n o new old e = old e

  fits_new : (edit : ThreadCreate) → MayCome g edit → Fits (new_thread edit)
  fits_new edit may = record { parent = may.fits; joined = λ user there. by_test user (edit.owner == user) refl there }
    where
      by_test : (user : ℕ) (b : Bool) → (edit.owner == user) ≡ b → is_some (if b then Some (new_thread_member edit.owner edit.at) else None) ≡ true → has_id member_id user g.members ≡ true
      by_test user true e there = let same : edit.owner ≡ user = grind (arith, nat_tests) in subst (λ (u : ℕ). has_id member_id u g.members ≡ true) same may.member
      by_test user false e there = absurd (cc)

  pub thread_came : (edit : ThreadCreate) → thread_create_verdict g edit ≡ None → IsConsistent (thread_created g edit)
  thread_came edit accepted =
      let n : Thread = new_thread edit in
      let may = may_come g edit accepted in
      let free = or_parts (has_id channel_id edit.thread g.channels) (has_id thread_id edit.thread g.threads) may.free in
      threads_changed (put_id thread_id n g.threads) g.messages
      (λ id t found. fits_put (edit.thread == id) t n (find_id thread_id id g.threads) (fits_new edit may) (fits id t) (sym (find-put thread_id n id g.threads) ∙ found))
      (λ id there. has-put thread_id n id g.threads ∙ apart_from edit.thread id free.0 there)
      (still_there (put_id thread_id n g.threads) (λ id there. has-kept thread_id n id g.threads there))
    where
      apart_from : (thread id : ℕ) → has_id channel_id thread g.channels ≡ false → has_id channel_id id g.channels ≡ true → ((thread == id) || has_id thread_id id g.threads) ≡ false
      apart_from thread id none some = by_test (thread == id) refl
        where
          by_test : (b : Bool) → (thread == id) ≡ b → (b || has_id thread_id id g.threads) ≡ false
          by_test true e = let same : thread ≡ id = grind (arith, nat_tests) in absurd (cc (none, some, same))
          by_test false e = h.apart id some

  -- a thread is another in its place
  fits_changed : (b : Bool) (f : Thread → Thread) (t : Thread) (o : Option Thread) → ((t : Thread) → Fits t → Fits (f t)) → ((t : Thread) → o ≡ Some t → Fits t) → (if b then option_map f o else o) ≡ Some t → Fits t
  fits_changed true f t None keeps old e = absurd (cc)
  fits_changed true f t (Some x) keeps old e = let same : f x ≡ t = cc in subst Fits same (keeps x (old x refl))
  fits_changed false f t o keeps old e = old t e

  changed : (at : ℕ) (f : Thread → Thread) → ((t : Thread) → thread_id (f t) ≡ thread_id t) → ((t : Thread) → Fits t → Fits (f t)) → IsConsistent (thread_changed g at f)
  changed at f same keeps =
      threads_changed (changed_id thread_id at f g.threads) g.messages
      (λ id t found. fits_changed (at == id) f t (find_id thread_id id g.threads) keeps (fits id) (sym (find-changed thread_id at f same id g.threads) ∙ found))
      (λ id there. has-changed thread_id at f same id g.threads ∙ h.apart id there)
      (still_there (changed_id thread_id at f g.threads) (λ id there. has-changed thread_id at f same id g.threads ∙ there))

  pub renamed : (edit : ThreadRename) → IsConsistent (thread_renamed g edit)
  renamed edit = changed edit.thread (with_thread_name edit.name) (λ t. refl) (λ t old. record { parent = old.parent; joined = old.joined })

  pub archived : (thread : ℕ) (is : Bool) → IsConsistent (thread_changed g thread (with_archived is))
  archived thread is = changed thread (with_archived is) (λ t. refl) (λ t old. record { parent = old.parent; joined = old.joined })

  -- a user joins or leaves
  joined_more : (user at : ℕ) → has_id member_id user g.members ≡ true → (t : Thread) → Fits t → Fits (with_joined user at t)
  joined_more user at is t old = record {
    parent = old.parent;
    joined = λ other there. by_test other (user == other) refl (sym (has-put thread_member_id (new_thread_member user at) other t.members) ∙ there);
  }
    where
      by_test : (other : ℕ) (b : Bool) → (user == other) ≡ b → (b || has_id thread_member_id other t.members) ≡ true → has_id member_id other g.members ≡ true
      by_test other true e either = let same : user ≡ other = grind (arith, nat_tests) in subst (λ (u : ℕ). has_id member_id u g.members ≡ true) same is
      by_test other false e either = old.joined other either

  pub user_joined : (edit : ThreadJoin) → thread_join_verdict g edit ≡ None → IsConsistent (thread_joined g edit)
  user_joined edit accepted = changed edit.thread (with_joined edit.user edit.at) (λ t. refl) (joined_more edit.user edit.at (may_join g edit accepted))

  joined_less : (user : ℕ) (t : Thread) → Fits t → Fits (with_left user t)
  joined_less user t old = record {
    parent = old.parent;
    joined = λ other there. old.joined other (has-left thread_member_id user other t.members there).1;
  }

  pub user_left : (edit : ThreadLeave) → IsConsistent (thread_left g edit)
  user_left edit = changed edit.thread (with_left edit.user) (λ t. refl) (joined_less edit.user)

  -- a thread goes
  module _ (thread : ℕ) where
    abbrev left : List Thread
    left = without_id thread_id thread g.threads

    message_stays : (m : MessageHead) → is_channel_or_thread g m.channel ≡ true → stands_elsewhere thread m ≡ true → is_channel_or_thread (thread_deleted g thread) m.channel ≡ true
    message_stays m there out =
        or_right (has_id channel_id m.channel g.channels) (has_id thread_id m.channel g.threads) (has_id thread_id m.channel left)
        (λ was. has-without thread_id thread m.channel g.threads ∙ and_from (not (thread == m.channel)) (has_id thread_id m.channel g.threads) (not_from_false (thread == m.channel) (turned m.channel out)) was) there
      where
        turned : (id : ℕ) → not (id == thread) ≡ true → (thread == id) ≡ false
        turned id e = grind (arith, nat_tests)

    pub thread_gone : IsConsistent (thread_deleted g thread)
    thread_gone =
        threads_changed left (filter (stands_elsewhere thread) g.messages)
        (λ id t found. fits id t (found-without thread_id thread id g.threads t found).1)
        (λ id there. has-without thread_id thread id g.threads ∙ and_right (not (thread == id)) (has_id thread_id id g.threads) (h.apart id there))
        (λ k d lt.
        message_stays (slice_index_or (filter (stands_elsewhere thread) g.messages) k d) (All-filter (stands_elsewhere thread) (λ (m : MessageHead). is_channel_or_thread g m.channel ≡ true) g.messages h.message_channels k d lt)
        (filter_passes (stands_elsewhere thread) g.messages k d lt))
