-- A record in which the lists hold together stays so under each edit of channels.
use Rattle.std.proofs.Common.{◌≡◌, ℕ, Bool, true, false, not, ◌&&◌, ◌||◌, List, [], ◌∷◌, map, Option, Some, None, if◌then◌else◌, refl, sym, ap, ◌∙◌, subst, arith, length}
use Rattle.std.specs.Prelude.{◌==◌, slice_index_or, is_some, option_map, filter}
use Rattle.std.proofs.lemmas.Bool.{and_parts, not-true, or_left, or_parts, or_right}
use Rattle.std.proofs.lemmas.Bool.Decides.{nat_tests}
use Rattle.std.proofs.lemmas.List.Elements.{All-weaker, All-filter, filter_passes}
use Rattle.collections.specs.ById.{find_id, has_id, put_id, changed_id, without_id, keep_if, IsById}
use Rattle.collections.proofs.Finds.{find-put, find-changed, find-without, find-map, find-filter, found-map, found-left, found-filter}
use Rattle.collections.proofs.Has.{has-put, has-kept, has-left, has-without, has-changed, has-map, changed_alike}
use Rattle.guild_model.specs.declared.channel.Channel.{Channel}
use Rattle.guild_model.specs.declared.channel.Overwrite.{Overwrite}
use Rattle.guild_model.specs.declared.channel.Overwrites.{Overwrites}
use Rattle.guild_model.specs.declared.channel.OverwriteKind.{OverwriteKind}
use Rattle.guild_model.specs.declared.channel.OverwriteKind.TheVariants.{Role, Member}
use Rattle.guild_model.specs.declared.thread.Thread.{Thread}
use Rattle.guild_model.specs.declared.voice.Voice.{Voice}
use Rattle.guild_model.specs.declared.message.MessageHead.{MessageHead}
use Rattle.guild_model.specs.declared.verdict.Verdict.TheVariants.{IdTaken, UnknownRole}
use Rattle.guild_model.specs.Record.{Record, role_id, overwrite_id, channel_id, thread_id, voice_id}
use Rattle.guild_model.specs.Consistent.{IsConsistent, has_threads, is_parent, is_channel_or_thread}
use Rattle.guild_model.specs.Tests.{refused_if, too_long, too_many, unknown_channel}
use Rattle.guild_model.proofs.Tests.{first_passes, not_refused, passed, parent-there}
use Rattle.guild_model.proofs.Kept.{channels_changed}
use Rattle.channel_edit.specs.declared.channel_create.ChannelCreate.{ChannelCreate}
use Rattle.channel_edit.specs.declared.channel_update.ChannelUpdate.{ChannelUpdate}
use Rattle.channel_edit.specs.declared.overwrite_set.OverwriteSet.{OverwriteSet}
use Rattle.channel_edit.specs.declared.overwrite_delete.OverwriteDelete.{OverwriteDelete}
use Rattle.channel_edit.specs.Channels.{unknown_parent, wrong_parent, first_overwrites, overwrites_there, new_channel, channel_create_verdict, channel_created, with_settings, with_channel_changed, channel_updated}
use Rattle.channel_edit.specs.ChannelEnd.{orphaned, is_outside, speaks_outside, is_in_channel, stands_outside, channel_deleted}
use Rattle.channel_edit.specs.OverwriteEdits.{unknown_target, without_room, overwrite_set_verdict, put_overwrite, with_overwrite, overwrite_of, overwrite_was_set, drop_overwrite, without_overwrite, overwrite_deleted, overwrites_with, with_overwrites}

-- what the tests let through
id_free : (g : Record) (edit : ChannelCreate) → channel_create_verdict g edit ≡ None → is_channel_or_thread g edit.channel ≡ false
id_free g edit e =
    let later = unknown_parent g edit.parent ∷ wrong_parent g edit.kind edit.parent ∷ too_many 500 (length g.channels) ∷ too_long 100 edit.name ∷ [] in
    not_refused (is_channel_or_thread g edit.channel) IdTaken (first_passes (refused_if (is_channel_or_thread g edit.channel) IdTaken) later e).0

target_there : (g : Record) (edit : OverwriteSet) → overwrite_set_verdict g edit ≡ None → unknown_target g edit.id edit.kind ≡ None
target_there g edit e =
    let room = without_room (find_id channel_id edit.channel g.channels) edit.id edit.kind in
    let target = unknown_target g edit.id edit.kind in
    (first_passes target (room ∷ []) (first_passes (unknown_channel g edit.channel) (target ∷ room ∷ []) e).1).0

-- a channel is given the overwrites that it has and one more
pub set_as : (g : Record) (edit : OverwriteSet) (os : Overwrites) → os ≡ overwrites_with g edit → with_channel_changed g edit.channel (with_overwrites os) ≡ overwrite_was_set g edit
set_as g edit os e =
    let same : changed_id channel_id edit.channel (with_overwrites os) g.channels ≡ changed_id channel_id edit.channel (with_overwrite edit.kind (overwrite_of edit)) g.channels =
    changed_alike channel_id edit.channel _ _ g.channels (λ c found. rw (e, found) refl) in
    ap (λ cs. record g { channels = cs }) same

keep_none : {T : Type 0} (p : T → Bool) (o : Option T) → is_some o ≡ false → is_some (keep_if p o) ≡ false
keep_none p None e = refl
keep_none p (Some x) e = absurd (cc)

two_sides : (a b : ℕ) → not (a == b) ≡ true → (b == a) ≡ false
two_sides a b e = grind (arith, nat_tests)

module _ (g : Record) (is_open : g.opened ≡ true) (h : IsConsistent g) where
  abbrev Covered : Overwrites → Type 0
  Covered os = (role : ℕ) → has_id overwrite_id role os.roles ≡ true → has_id role_id role g.roles ≡ true

  -- a channel is another in its place, of the same type
  found_changed : (b : Bool) (f : Channel → Channel) (c : Channel) (o : Option Channel) → ((c : Channel) → Covered c.overwrites → Covered (f c).overwrites) → ((c : Channel) → o ≡ Some c → Covered c.overwrites) → (if b then option_map f o else o) ≡ Some c → Covered c.overwrites
  found_changed true f c None keeps old e = absurd (cc)
  found_changed true f c (Some x) keeps old e = let same : f x ≡ c = cc in subst (λ (c : Channel). Covered c.overwrites) same (keeps x (old x refl))
  found_changed false f c o keeps old e = old c e

  same_kind : (b : Bool) (f : Channel → Channel) (o : Option Channel) → ((c : Channel) → (f c).kind ≡ c.kind) → is_parent (if b then option_map f o else o) ≡ is_parent o
  same_kind true f None kinds = refl
  same_kind true f (Some c) kinds = ap has_threads (kinds c)
  same_kind false f o kinds = refl

  pub channel_changed : (at : ℕ) (f : Channel → Channel) → ((c : Channel) → channel_id (f c) ≡ channel_id c) → ((c : Channel) → (f c).kind ≡ c.kind) → ((c : Channel) → Covered c.overwrites → Covered (f c).overwrites) → IsConsistent (with_channel_changed g at f)
  channel_changed at f same kinds keeps =
      channels_changed g is_open h _
      (λ id. has-changed channel_id at f same id g.channels)
      (λ id. ap is_parent (find-changed channel_id at f same id g.channels) ∙ same_kind (at == id) f (find_id channel_id id g.channels) kinds)
      (λ channel role c found there.
      found_changed (at == channel) f c (find_id channel_id channel g.channels) keeps (λ c e role. h.overwritten channel role c e) (sym (find-changed channel_id at f same channel g.channels) ∙ found) role there)

  pub updated : (edit : ChannelUpdate) → IsConsistent (channel_updated g edit)
  updated edit = channel_changed edit.channel (with_settings edit) (λ c. refl) (λ c. refl) (λ c old. old)

  covered_set : (o : Overwrite) (kind : OverwriteKind) → unknown_target g o.id kind ≡ None → (os : Overwrites) → Covered os → Covered (put_overwrite kind o os)
  covered_set o Member e os old role there = old role there
  covered_set o Role e os old role there =
      let is : has_id role_id o.id g.roles ≡ true = passed (has_id role_id o.id g.roles) UnknownRole e in
      by_test (overwrite_id o == role) refl (sym (has-put overwrite_id o role os.roles) ∙ there) is
    where
      by_test : (b : Bool) → (o.id == role) ≡ b → (b || has_id overwrite_id role os.roles) ≡ true → has_id role_id o.id g.roles ≡ true → has_id role_id role g.roles ≡ true
      by_test true is_same either is = let same : o.id ≡ role = grind (arith, nat_tests) in subst (λ (r : ℕ). has_id role_id r g.roles ≡ true) same is
      by_test false is_other either is = old role either

  pub overwrite_set : (edit : OverwriteSet) → overwrite_set_verdict g edit ≡ None → IsConsistent (overwrite_was_set g edit)
  overwrite_set edit accepted =
      channel_changed edit.channel (with_overwrite edit.kind (overwrite_of edit)) (λ c. refl) (λ c. refl)
      (λ c old. covered_set (overwrite_of edit) edit.kind (target_there g edit accepted) c.overwrites old)

  covered_left : (id : ℕ) (kind : OverwriteKind) (os : Overwrites) → Covered os → Covered (drop_overwrite kind id os)
  covered_left id Member os old role there = old role there
  covered_left id Role os old role there = old role (has-left overwrite_id id role os.roles there).1

  pub overwrite_gone : (edit : OverwriteDelete) → IsConsistent (overwrite_deleted g edit)
  overwrite_gone edit = channel_changed edit.channel (without_overwrite edit.kind edit.id) (λ c. refl) (λ c. refl) (λ c old. covered_left edit.id edit.kind c.overwrites old)

  -- a channel comes
  covered_there : (o : Option Channel) → ((c : Channel) → o ≡ Some c → Covered c.overwrites) → Covered (overwrites_there o)
  covered_there None old role there = absurd (cc)
  covered_there (Some c) old role there = old c refl role there

  covered_first : (parent : Option ℕ) (sync : Bool) → Covered (first_overwrites g parent sync)
  covered_first None sync role there = absurd (cc)
  covered_first (Some parent) false role there = absurd (cc)
  covered_first (Some parent) true role there = covered_there (find_id channel_id parent g.channels) (λ c e role. h.overwritten parent role c e) role there

  found_put : (b : Bool) (c n : Channel) (o : Option Channel) → Covered n.overwrites → (o ≡ Some c → Covered c.overwrites) → (if b then Some n else o) ≡ Some c → Covered c.overwrites
  found_put true c n o new old e = let same : n ≡ c = cc in subst (λ (c : Channel). Covered c.overwrites) same new
  found_put false c n o new old e = old e

  other_parent : (b : Bool) (n : Channel) (o : Option Channel) → b ≡ false → is_parent o ≡ true → is_parent (if b then Some n else o) ≡ true
  other_parent true n o e was = absurd (cc)
  other_parent false n o e was = was

  differs : (a b : ℕ) → has_id channel_id a g.channels ≡ false → has_id channel_id b g.channels ≡ true → (a == b) ≡ false
  differs a b none some = by_test (a == b) refl
    where
      by_test : (t : Bool) → (a == b) ≡ t → t ≡ false
      by_test false e = refl
      by_test true e = let same : a ≡ b = grind (arith, nat_tests) in absurd (cc (none, some, same))

  still_there : (n : Channel) (id : ℕ) → is_channel_or_thread g id ≡ true → (has_id channel_id id (put_id channel_id n g.channels) || has_id thread_id id g.threads) ≡ true
  still_there n id there = grind (arith, has-put channel_id n id g.channels)

  pub channel_came : (edit : ChannelCreate) → channel_create_verdict g edit ≡ None → IsConsistent (channel_created g edit)
  channel_came edit accepted =
      let channel = edit.channel in
      let n : Channel = new_channel g edit in
      let free = or_parts (has_id channel_id channel g.channels) (has_id thread_id channel g.threads) (id_free g edit accepted) in
      record {
        empty = λ closed. absurd (cc (is_open, closed));
        everyone = h.everyone;
        owner = h.owner;
        held = h.held;
        overwritten = λ id role c found there.
            found_put (channel == id) c n (find_id channel_id id g.channels) (covered_first edit.parent edit.sync) (λ e role. h.overwritten id role c e) (sym (find-put channel_id n id g.channels) ∙ found) role there;
        voices = λ user v found. let old = h.voices user v found in (old.0, has-kept channel_id n v.channel g.channels old.1);
        presences = h.presences;
        parents = λ thread t found.
            let was = h.parents thread t found in
            let other = differs channel t.parent free.0 (parent-there (find_id channel_id t.parent g.channels) was) in
            ap is_parent (find-put channel_id n t.parent g.channels) ∙ other_parent (channel == t.parent) n (find_id channel_id t.parent g.channels) other was;
        joined = h.joined;
        apart = λ id there. apart_from channel id free.1 (sym (has-put channel_id n id g.channels) ∙ there);
        message_channels = All-weaker (λ (m : MessageHead). is_channel_or_thread g m.channel ≡ true) (λ (m : MessageHead). is_channel_or_thread (channel_created g edit) m.channel ≡ true)
            (λ m there. still_there n m.channel there) g.messages h.message_channels;
      }
    where
      apart_from : (channel id : ℕ) → has_id thread_id channel g.threads ≡ false → ((channel == id) || has_id channel_id id g.channels) ≡ true → has_id thread_id id g.threads ≡ false
      apart_from channel id free there = by_test (channel == id) refl there
        where
          by_test : (b : Bool) → (channel == id) ≡ b → (b || has_id channel_id id g.channels) ≡ true → has_id thread_id id g.threads ≡ false
          by_test true e either = let same : channel ≡ id = grind (arith, nat_tests) in subst (λ (x : ℕ). has_id thread_id x g.threads ≡ false) same free
          by_test false e either = h.apart id either

  -- a channel goes
  module _ (threads_ascend : IsById thread_id g.threads) (voices_ascend : IsById voice_id g.voices) (channel : ℕ) where
    abbrev left_channels : List Channel
    left_channels = map (orphaned channel) (without_id channel_id channel g.channels)

    has_left : (id : ℕ) → has_id channel_id id left_channels ≡ (not (channel == id) && has_id channel_id id g.channels)
    has_left id = has-map channel_id (orphaned channel) (λ c. refl) id (without_id channel_id channel g.channels) ∙ has-without channel_id channel id g.channels

    stays : (id : ℕ) → (channel == id) ≡ false → has_id channel_id id g.channels ≡ true → has_id channel_id id left_channels ≡ true
    stays id other there = has_left id ∙ ap (λ b. not b && has_id channel_id id g.channels) other ∙ there

    find_left : (id : ℕ) → find_id channel_id id left_channels ≡ option_map (orphaned channel) (if channel == id then None else find_id channel_id id g.channels)
    find_left id = find-map channel_id channel_id (orphaned channel) (λ c. refl) id (without_id channel_id channel g.channels) ∙ ap (option_map (orphaned channel)) (find-without channel_id channel id g.channels)

    parent_left : (b : Bool) (o : Option Channel) → b ≡ false → is_parent o ≡ true → is_parent (option_map (orphaned channel) (if b then None else o)) ≡ true
    parent_left true o e was = absurd (cc)
    parent_left false None e was = was
    parent_left false (Some c) e was = was

    thread_was : (thread : ℕ) (t : Thread) → find_id thread_id thread (filter (is_outside channel) g.threads) ≡ Some t → (is_outside channel t ≡ true) × (find_id thread_id thread g.threads ≡ Some t)
    thread_was thread t found = found-filter thread_id (is_outside channel) thread g.threads t threads_ascend found

    voice_was : (user : ℕ) (v : Voice) → find_id voice_id user (filter (speaks_outside channel) g.voices) ≡ Some v → (speaks_outside channel v ≡ true) × (find_id voice_id user g.voices ≡ Some v)
    voice_was user v found = found-filter voice_id (speaks_outside channel) user g.voices v voices_ascend found

    kept_thread : (o : Option Thread) → is_in_channel channel o ≡ false → is_some o ≡ true → is_some (keep_if (is_outside channel) o) ≡ true
    kept_thread None out there = there
    kept_thread (Some t) out there = grind arith

    same_test : (a b : ℕ) → (a == b) ≡ false → (b == a) ≡ false
    same_test a b e = grind (arith, nat_tests)

    message_stays : (m : MessageHead) → is_channel_or_thread g m.channel ≡ true → stands_outside g.threads channel m ≡ true → is_channel_or_thread (channel_deleted g channel) m.channel ≡ true
    message_stays m there out =
        let parts = or_parts (m.channel == channel) (is_in_channel channel (find_id thread_id m.channel g.threads)) (not-true _ out) in
        by_channel (has_id channel_id m.channel g.channels) refl there (same_test m.channel channel parts.0) parts.1
      where
        by_channel : (b : Bool) → has_id channel_id m.channel g.channels ≡ b → (b || has_id thread_id m.channel g.threads) ≡ true → (channel == m.channel) ≡ false → is_in_channel channel (find_id thread_id m.channel g.threads) ≡ false → is_channel_or_thread (channel_deleted g channel) m.channel ≡ true
        by_channel true e either other out = or_left (has_id channel_id m.channel left_channels) _ (stays m.channel other e)
        by_channel false e either other out =
            or_right (has_id channel_id m.channel left_channels) _
            (ap is_some (find-filter thread_id (is_outside channel) m.channel g.threads threads_ascend) ∙ kept_thread (find_id thread_id m.channel g.threads) out either)

    pub channel_gone : IsConsistent (channel_deleted g channel)
    channel_gone = record {
      empty = λ closed. absurd (cc (is_open, closed));
      everyone = h.everyone;
      owner = h.owner;
      held = h.held;
      overwritten = λ id role c found there.
          let was = found-map (orphaned channel) (if channel == id then None else find_id channel_id id g.channels) c (sym (find_left id) ∙ found) in
          let old = found-left (channel == id) (find_id channel_id id g.channels) was.0 was.1.0 in
          h.overwritten id role was.0 old.1 (sym (ap (λ (c : Channel). has_id overwrite_id role c.overwrites.roles) was.1.1) ∙ there);
      voices = λ user v found.
          let was = voice_was user v found in
          let old = h.voices user v was.1 in
          (old.0, stays v.channel (two_sides v.channel channel was.0) old.1);
      presences = h.presences;
      parents = λ thread t found.
          let was = thread_was thread t found in
          ap is_parent (find_left t.parent) ∙ parent_left (channel == t.parent) (find_id channel_id t.parent g.channels) (two_sides t.parent channel was.0) (h.parents thread t was.1);
      joined = λ thread user t found there. h.joined thread user t (thread_was thread t found).1 there;
      apart = λ id there.
          let had = (and_parts (not (channel == id)) (has_id channel_id id g.channels) (sym (has_left id) ∙ there)).1 in
          ap is_some (find-filter thread_id (is_outside channel) id g.threads threads_ascend) ∙ keep_none (is_outside channel) (find_id thread_id id g.threads) (h.apart id had);
      message_channels = λ k d lt.
          message_stays (slice_index_or (filter (stands_outside g.threads channel) g.messages) k d) (All-filter (stands_outside g.threads channel) (λ (m : MessageHead). is_channel_or_thread g m.channel ≡ true) g.messages h.message_channels k d lt)
          (filter_passes (stands_outside g.threads channel) g.messages k d lt);
    }
