-- The dispatches of each edit, as one from whom channels are withheld is told them.
use Rattle.std.proofs.Common.{◌≡◌, ℕ, Bool, true, false, not, ◌&&◌, ◌||◌, List, [], ◌∷◌, map, Option, Some, None, refl, sym, ap, subst, ◌∙◌}
use Rattle.std.specs.Prelude.{◌==◌, All, is_some}
use Rattle.std.proofs.lemmas.Bool.{and_parts}
use Rattle.std.proofs.lemmas.List.Elements.{All-nil, All-append, All-map, All-weaker}
use Rattle.collections.specs.ById.{find_id, has_id}
use Rattle.collections.proofs.Finds.{key-found, found-kept}
use Rattle.perm_bits.specs.Bits.{has_bit}
use Rattle.perm_bits.specs.Permissions.{manage_threads}
use Rattle.intent_set.specs.Intents.{guilds}
use Rattle.guild_model.specs.declared.channel.Channel.{Channel}
use Rattle.guild_model.specs.declared.member.Member.{Member}
use Rattle.guild_model.specs.declared.thread.Thread.{Thread}
use Rattle.guild_model.specs.declared.thread.ThreadMember.{ThreadMember}
use Rattle.guild_model.specs.Record.{Record, channel_id, thread_id}
use Rattle.guild_model.specs.Sight.{standing, granted, sees, sees_in, is_in, is_private, member_sees}
use Rattle.dispatch_types.specs.declared.threads.ThreadObject.{ThreadObject}
use Rattle.dispatch_types.specs.declared.viewer.Viewer.{Viewer}
use Rattle.dispatch_types.specs.declared.dispatch.Dispatch.{Dispatch}
use Rattle.dispatch_types.specs.declared.dispatch.Dispatch.TheVariants as dispatch
use Rattle.dispatch_types.specs.Objects.{thread_object, thread_member_object, channel_object}
use Rattle.dispatch_types.specs.Projection.{is_active}
use Rattle.thread_sync.specs.Shown.{Shown, shown_to}
use Rattle.thread_sync.specs.Seen.{is_among}
use Rattle.thread_sync.specs.Sync.{own_membership, threads_in, listing, listing_if_any, gained_parents, list_sync}
use Rattle.event_views.specs.Asked.{told_if}
use Rattle.event_views.specs.Threads.{members_update, seen_thread, thread_creates, thread_updates, member_comes, thread_joins, thread_leaves, membership}
use Rattle.role_member_events.specs.Dispatches.{member_updated, member_ended}
use Rattle.channel_events.specs.Dispatches.{told_of, updated, gone, deleted}
use Rattle.thread_edit.specs.declared.ThreadEdit.{ThreadEdit}
use Rattle.thread_edit.specs.declared.ThreadEdit.TheVariants as thread
use Rattle.thread_events.specs.Dispatches as thread_events
use Rattle.message_events.specs.Messages.{is_message}
use Rattle.message_events.proofs.Of.{IsMessageOf}
use Rattle.channel_privacy.specs.Withheld.{Showing}
use Rattle.channel_privacy.proofs.Asked.{asked-all}
use Rattle.channel_privacy.proofs.Rows.{Fits}
use Rattle.channel_privacy.proofs.Follows.{IsSync, All-passes}
use Rattle.channel_privacy.proofs.Alone.{OfThreads}
use Rattle.edit_events.proofs.Shown.{sees-shown}
use Rattle.edit_events.proofs.Walk.{is_plain, member_updated-all, removed-all, updated-all, created-all, all_left, deleted-all}

first : (a b : Bool) → (a && b) ≡ true → a ≡ true
first a b e = (and_parts a b e).0

module _ (s t : Record) (v : Viewer) (x : Showing) where
  abbrev pub F : Dispatch → Type 0
  F = Fits v.intents s.id s t x

  pub plain-fits : (d : Dispatch) → is_plain d ≡ true → F d
  plain-fits (dispatch.Ready ready) is = absurd (cc)
  plain-fits dispatch.Resumed is = absurd (cc)
  plain-fits (dispatch.GuildCreate create) is = absurd (cc)
  plain-fits (dispatch.GuildDelete delete) is = absurd (cc)
  plain-fits (dispatch.ChannelCreate o) is = absurd (cc)
  plain-fits (dispatch.ChannelUpdate o) is = absurd (cc)
  plain-fits (dispatch.ChannelDelete o) is = absurd (cc)
  plain-fits (dispatch.ThreadCreate c) is = absurd (cc)
  plain-fits (dispatch.ThreadUpdate thread) is = absurd (cc)
  plain-fits (dispatch.ThreadListSync sync) is = absurd (cc)
  plain-fits (dispatch.VoiceStateUpdate u) is = absurd (cc)
  plain-fits d is = tt

  -- of a channel that stood before, if it stands
  pub update-fits : ((id : ℕ) → has_id channel_id id t.channels ≡ true → has_id channel_id id s.channels ≡ true) → (channel : ℕ) (c : Channel) → find_id channel_id channel t.channels ≡ Some c → F (dispatch.ChannelUpdate (channel_object t.id c))
  update-fits stood channel c found =
      let at : c.id ≡ channel = key-found channel_id channel t.channels c found in
      let there : has_id channel_id c.id t.channels ≡ true = subst (λ (id : ℕ). has_id channel_id id t.channels ≡ true) (sym at) (ap (λ (o : Option Channel). is_some o) found) in
      ap (λ b. b && has_id channel_id c.id t.channels) (stood c.id there) ∙ there

  pub ended-fits : (me : Member) (o : Option Member) → All F (member_ended s me t v o)
  ended-fits me o = removed-all F plain-fits s t v (λ user z found. refl) me o

  pub member_updated-fits : (user : ℕ) → All F (member_updated t v user)
  member_updated-fits user = member_updated-all F plain-fits s t v user

  pub updated-fits : ((id : ℕ) → has_id channel_id id t.channels ≡ true → has_id channel_id id s.channels ≡ true) → (channel : ℕ) → All F (updated t v channel)
  updated-fits stood channel = updated-all F plain-fits s t v (update-fits stood) channel

  pub created-fits : (channel : ℕ) → has_id channel_id channel s.channels ≡ false → (o : Option Channel) → ((c : Channel) → o ≡ Some c → c.id ≡ channel) → All F (told_of t v dispatch.ChannelCreate o)
  created-fits channel new o at = created-all F plain-fits s t v o (λ c is. subst (λ (id : ℕ). has_id channel_id id s.channels ≡ false) (sym (at c is)) new)

  pub deleted-fits : ((id : ℕ) → has_id channel_id id t.channels ≡ true → has_id channel_id id s.channels ≡ true) → (o : Option Channel)
      → ((c : Channel) → o ≡ Some c → (has_id channel_id c.id s.channels ≡ true) × (has_id channel_id c.id t.channels ≡ false)) → All F (deleted s t v o)
  deleted-fits stood o gone = deleted-all F plain-fits s t v (all_left F plain-fits s t v (λ z. refl)) (update-fits stood) o gone

  -- ---- messages
  message-fits : (d : Dispatch) → is_message d ≡ true → F d
  message-fits (dispatch.MessageCreate message) is = tt
  message-fits (dispatch.MessageUpdate message) is = tt
  message-fits (dispatch.MessageDelete delete) is = tt
  message-fits (dispatch.MessageReactionAdd reaction) is = tt
  message-fits (dispatch.MessageReactionRemove reaction) is = tt
  message-fits (dispatch.TypingStart typing) is = tt
  message-fits _ is = absurd (cc)

  pub messages-fit : (ds : List Dispatch) → All (IsMessageOf t.id) ds → All F ds
  messages-fit ds of = All-weaker (IsMessageOf t.id) F (λ d is. message-fits d is.message) ds of

-- ---- the sync: what it lists stands in channels that are shown
module _ (s t : Record) (v : Viewer) (x : Showing) (me : Member) (shows : (id : ℕ) → sees (standing t me) id ≡ true → x.after id ≡ true) (asked_for : has_bit v.intents guilds ≡ true) (same : t.id ≡ s.id) where
  abbrev S : Dispatch → Type 0
  S = IsSync s t v x asked_for same

  listed-shown : (parents : List ℕ) → All (λ (thread : ThreadObject). x.after thread.parent ≡ true) (map (thread_object t.id) (threads_in (shown_to t me) parents t.threads))
  listed-shown parents =
      All-map (λ (thread : ThreadObject). x.after thread.parent ≡ true) (thread_object t.id) (threads_in (shown_to t me) parents t.threads)
      (All-weaker (λ (thread : Thread). (is_among parents thread.parent && (shown_to t me).thread thread) ≡ true) (λ (thread : Thread). x.after thread.parent ≡ true) seen (threads_in (shown_to t me) parents t.threads)
      (All-passes (λ (thread : Thread). is_among parents thread.parent && (shown_to t me).thread thread) t.threads))
    where
      seen : (thread : Thread) → (is_among parents thread.parent && (shown_to t me).thread thread) ≡ true → x.after thread.parent ≡ true
      seen thread e =
          let now = (and_parts (is_among parents thread.parent) ((shown_to t me).thread thread) e).1 in
          let sight = (and_parts (is_active thread) (sees_in (standing t me) thread.parent thread.kind (is_in me.user.id thread)) now).1 in
          shows thread.parent (first (sees (standing t me) thread.parent) (not (is_private thread.kind) || is_in me.user.id thread || granted (standing t me) thread.parent manage_threads) sight)

  pub sync-fits : (before : Shown) → All S (told_if v (list_sync before (shown_to t me) t me.user.id))
  sync-fits before = by_parents (gained_parents before (shown_to t me) t)
    where
      by_parents : (ps : List ℕ) → All S (told_if v (listing_if_any (shown_to t me) t me.user.id ps))
      by_parents [] = All-nil S
      by_parents (p ∷ ps) = asked-all S v false (listing t.id me.user.id (p ∷ ps) (threads_in (shown_to t me) (p ∷ ps) t.threads)) (listed-shown (p ∷ ps))

-- ---- threads
module _ (t : Record) (me : Member) (v : Viewer) (g : ℕ) (private : Bool) where
  abbrev under : ℕ → Bool
  under channel = not private || sees (standing t me) channel

  abbrev O : Dispatch → Type 0
  O = OfThreads v.intents g under

  pub seen-under : (thread : ℕ) (there : Thread) → seen_thread t me thread ≡ Some there → under there.parent ≡ true
  seen-under thread there e =
      sees-shown private (sees (standing t me) there.parent) (first (sees (standing t me) there.parent) (not (is_private there.kind) || is_in me.user.id there || granted (standing t me) there.parent manage_threads) (found-kept (member_sees t me) (find_id thread_id thread t.threads) there e).0)

  pub creates-fit : (newly : Bool) (o : Option Thread) → ((there : Thread) → o ≡ Some there → under there.parent ≡ true) → All O (thread_creates t.id v newly o)
  creates-fit newly None is = All-nil O
  creates-fit newly (Some there) is = asked-all O v false (dispatch.ThreadCreate (record { thread = thread_object t.id there; newly_created = newly; member = own_membership v.user there })) (is there refl)

  pub updates-fit : (o : Option Thread) → ((there : Thread) → o ≡ Some there → under there.parent ≡ true) → All O (thread_updates t.id v o)
  updates-fit None is = All-nil O
  updates-fit (Some there) is = asked-all O v false (dispatch.ThreadUpdate (thread_object t.id there)) (is there refl)

  comes-fit : (there : Thread) (o : Option ThreadMember) → All O (member_comes t.id v there o)
  comes-fit there None = All-nil O
  comes-fit there (Some m) = asked-all O v (m.user == v.user) (dispatch.ThreadMembersUpdate (members_update t.id there (thread_member_object there.id m ∷ []) [])) tt

  pub joins-fit : (user : ℕ) (o : Option Thread) → All O (thread_joins t.id v user o)
  joins-fit user None = All-nil O
  joins-fit user (Some there) = comes-fit there (membership user there)

  pub leaves-fit : (user : ℕ) (o : Option Thread) → All O (thread_leaves t.id v user o)
  leaves-fit user None = All-nil O
  leaves-fit user (Some there) = asked-all O v (user == v.user) (dispatch.ThreadMembersUpdate (members_update t.id there [] (user ∷ []))) tt

  pub threads-fit : (before : Record) (before_me : Member) (e : ThreadEdit) → All O (thread_events.thread_dispatches before before_me t me v e)
  threads-fit before before_me (thread.ThreadCreate e) = creates-fit true (seen_thread t me e.thread) (seen-under e.thread)
  threads-fit before before_me (thread.ThreadRename e) = updates-fit (seen_thread t me e.thread) (seen-under e.thread)
  threads-fit before before_me (thread.ThreadArchive id) = updates-fit (seen_thread t me id) (seen-under id)
  threads-fit before before_me (thread.ThreadUnarchive id) = All-append O _ _ (updates-fit (seen_thread t me id) (seen-under id)) (joins-fit v.user (seen_thread t me id))
  threads-fit before before_me (thread.ThreadDelete id) = by_was (seen_thread before before_me id)
    where
      by_was : (o : Option Thread) → All O (thread_events.deleted o t.id v id)
      by_was None = All-nil O
      by_was (Some was) = asked-all O v false (dispatch.ThreadDelete (record { guild = t.id; id = id; parent = was.parent; kind = was.kind })) tt
  threads-fit before before_me (thread.ThreadJoin e) = by_was (seen_thread before before_me e.thread)
    where
      by_was : (o : Option Thread) → All O (thread_events.joined o t v me e)
      by_was None = creates-fit false (seen_thread t me e.thread) (seen-under e.thread)
      by_was (Some was) = joins-fit e.user (find_id thread_id e.thread t.threads)
  threads-fit before before_me (thread.ThreadLeave e) = by_was (seen_thread before before_me e.thread)
    where
      by_was : (o : Option Thread) → All O (thread_events.left o t v e)
      by_was None = All-nil O
      by_was (Some was) = leaves-fit e.user (find_id thread_id e.thread t.threads)
