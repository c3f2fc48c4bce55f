-- What is told of channels that are shown makes of the part that stands in them that part of what it makes
-- of the whole.
use Rattle.std.proofs.Common.{◌≡◌, ℕ, Bool, true, false, not, List, [], ◌∷◌, map, Option, Some, None, if◌then◌else◌, refl, sym, ap, ◌∙◌}
use Rattle.std.specs.Prelude.{◌==◌, All, filter, option_map}
use Rattle.std.proofs.lemmas.List.Elements.{All-head, All-tail, All-map}
use Rattle.collections.specs.ById.{find_id, put_id, put_all, without_id, keep_if, IsById}
use Rattle.collections.proofs.Ids.{IsById-put}
use Rattle.collections.proofs.Finds.{find-filter, IsById-filter, IsById-map, IsById-put_all}
use Rattle.collections.proofs.Filters.{put-filter}
use Rattle.guild_model.specs.declared.channel.Channel.{Channel}
use Rattle.guild_model.specs.declared.member.Member.{Member}
use Rattle.guild_model.specs.declared.presence.Presence.{Presence}
use Rattle.guild_model.specs.declared.thread.ThreadMember.{ThreadMember}
use Rattle.guild_model.specs.declared.voice.Voice.{Voice}
use Rattle.guild_model.specs.Record.{channel_id, voice_id}
use Rattle.guild_model.specs.Changes.{without_role_overwrite}
use Rattle.dispatch_types.specs.declared.dispatch.Dispatch.{Dispatch}
use Rattle.dispatch_types.specs.declared.dispatch.Dispatch.TheVariants.{GuildUpdate, GuildRoleCreate, GuildRoleUpdate, GuildRoleDelete, ChannelCreate, ChannelUpdate, ChannelDelete, ThreadCreate, ThreadUpdate, ThreadDelete, ThreadListSync, ThreadMembersUpdate, GuildMemberAdd, GuildMemberUpdate, GuildMemberRemove, GuildMembersChunk, VoiceStateUpdate, PresenceUpdate}
use Rattle.dispatch_types.specs.declared.threads.ThreadObject.{ThreadObject}
use Rattle.dispatch_types.specs.declared.threads.ThreadMembersUpdate.{ThreadMembersUpdate as MembersUpdate}
use Rattle.dispatch_types.specs.declared.threads.ThreadListSync.{ThreadListSync as Sync}
use Rattle.dispatch_types.specs.declared.presences.VoiceObject.{VoiceObject}
use Rattle.dispatch_types.specs.declared.view.OpenView.{OpenView}
use Rattle.dispatch_types.specs.declared.view.ThreadView.{ThreadView}
use Rattle.dispatch_types.specs.Objects.{channel_of, member_of, thread_member_of, voice_in, voice_of}
use Rattle.dispatch_types.specs.Fold.{thread_view_id, contains, thread_of, mine_of, drop_channel, drop_role, update_thread, synced_thread, sync_threads, members_updated, update_members, set_me, set_voice, set_presence, open_after}
use Rattle.channel_privacy.proofs.Only.{shows_channel, shows_voice, shows_thread, only}
use Rattle.channel_privacy.proofs.Filters.{filter-swaps, filter-changed}
use Rattle.channel_privacy.proofs.Part.{IsOrdered}

-- a thread that is updated stood under a shown channel, if it was held
abbrev pub WasUnder : (ℕ → Bool) → OpenView → ℕ → Type 0
WasUnder shown v thread = (t : ThreadView) → find_id thread_view_id thread v.threads ≡ Some t → shown t.parent ≡ true

-- a dispatch that tells of nothing but what is shown, to one that holds this view
abbrev pub TellsShown : (ℕ → Bool) → OpenView → Dispatch → Type 0
TellsShown shown v (ChannelCreate o) = shown o.id ≡ true
TellsShown shown v (ChannelUpdate o) = shown o.id ≡ true
TellsShown shown v (ThreadCreate c) = shown c.thread.parent ≡ true
TellsShown shown v (ThreadUpdate t) = (shown t.parent ≡ true) × WasUnder shown v t.id
TellsShown shown v (ThreadListSync s) = All (λ (t : ThreadObject). shown t.parent ≡ true) s.threads
TellsShown shown v (VoiceStateUpdate u) = (c : ℕ) → u.voice.channel ≡ Some c → shown c ≡ true
TellsShown shown v _ = Unit {0}

-- ---- the lists go on ascending

module _ (intents bot : ℕ) (v : OpenView) (order : IsOrdered v) where
  abbrev in_order : List Channel → List Voice → List ThreadView → Type 0
  in_order cs xs ts = IsById channel_id cs × (IsById voice_id xs × IsById thread_view_id ts)

  ordered-thread : (t : ThreadObject) → IsOrdered (update_thread intents t v)
  ordered-thread t = by_archived t.archived
    where
      by_archived : (b : Bool) → IsOrdered (if b then record v { threads = without_id thread_view_id t.id v.threads } else record v { threads = put_id thread_view_id (thread_of intents (mine_of (find_id thread_view_id t.id v.threads)) t) v.threads })
      by_archived true = record { channels = order.channels; voices = order.voices; threads = IsById-filter thread_view_id (λ x. not (x.id == t.id)) v.threads order.threads }
      by_archived false = record { channels = order.channels; voices = order.voices; threads = IsById-put thread_view_id _ v.threads order.threads }

  ordered-voice : (user : ℕ) (o : Option Voice) → IsOrdered (set_voice user o v)
  ordered-voice user None = record { channels = order.channels; voices = IsById-filter voice_id (λ x. not (x.user == user)) v.voices order.voices; threads = order.threads }
  ordered-voice user (Some x) = record { channels = order.channels; voices = IsById-put voice_id x v.voices order.voices; threads = order.threads }

  ordered-me : (m : Member) (w : OpenView) → IsOrdered w → IsOrdered (set_me bot m w)
  ordered-me m w h = by_test (m.user.id == bot)
    where
      by_test : (b : Bool) → IsOrdered (if b then record w { me = m } else w)
      by_test true = record { channels = h.channels; voices = h.voices; threads = h.threads }
      by_test false = h

  ordered-presence : (user : ℕ) (o : Option Presence) → IsOrdered (set_presence user o v)
  ordered-presence user None = record { channels = order.channels; voices = order.voices; threads = order.threads }
  ordered-presence user (Some p) = record { channels = order.channels; voices = order.voices; threads = order.threads }

  members-same : (update : MembersUpdate) (t : ThreadView) → (if t.id == update.id then members_updated intents bot update t else t).id ≡ t.id
  members-same update t = by_test (t.id == update.id)
    where
      by_test : (b : Bool) → (if b then members_updated intents bot update t else t).id ≡ t.id
      by_test true = refl
      by_test false = refl

  pub ordered-after : (d : Dispatch) → IsOrdered (open_after intents bot d v)
  ordered-after (GuildUpdate update) = record { channels = order.channels; voices = order.voices; threads = order.threads }
  ordered-after (GuildRoleCreate role) = record { channels = order.channels; voices = order.voices; threads = order.threads }
  ordered-after (GuildRoleUpdate role) = record { channels = order.channels; voices = order.voices; threads = order.threads }
  ordered-after (GuildRoleDelete delete) = record { channels = IsById-map channel_id channel_id (without_role_overwrite delete.role) (λ c. refl) v.channels order.channels; voices = order.voices; threads = order.threads }
  ordered-after (ChannelCreate o) = record { channels = IsById-put channel_id (channel_of o) v.channels order.channels; voices = order.voices; threads = order.threads }
  ordered-after (ChannelUpdate o) = record { channels = IsById-put channel_id (channel_of o) v.channels order.channels; voices = order.voices; threads = order.threads }
  ordered-after (ChannelDelete o) = record {
    channels = IsById-filter channel_id (λ c. not (c.id == o.id)) v.channels order.channels;
    voices = IsById-filter voice_id (λ x. not (x.channel == o.id)) v.voices order.voices;
    threads = IsById-filter thread_view_id (λ t. not (t.parent == o.id)) v.threads order.threads;
  }
  ordered-after (ThreadCreate c) = record { channels = order.channels; voices = order.voices; threads = IsById-put thread_view_id (thread_of intents (option_map thread_member_of c.member) c.thread) v.threads order.threads }
  ordered-after (ThreadUpdate t) = ordered-thread t
  ordered-after (ThreadDelete delete) = record { channels = order.channels; voices = order.voices; threads = IsById-filter thread_view_id (λ x. not (x.id == delete.id)) v.threads order.threads }
  ordered-after (ThreadListSync s) = record { channels = order.channels; voices = order.voices; threads = IsById-put_all thread_view_id _ (map (synced_thread intents s.members) s.threads) (IsById-filter thread_view_id (λ t. not (contains t.parent s.channels)) v.threads order.threads) }
  ordered-after (ThreadMembersUpdate update) = record { channels = order.channels; voices = order.voices; threads = IsById-map thread_view_id thread_view_id (λ t. if t.id == update.id then members_updated intents bot update t else t) (members-same update) v.threads order.threads }
  ordered-after (GuildMemberAdd member) = record { channels = order.channels; voices = order.voices; threads = order.threads }
  ordered-after (GuildMemberUpdate member) = ordered-me (member_of member.member) _ (record { channels = order.channels; voices = order.voices; threads = order.threads })
  ordered-after (GuildMemberRemove remove) = record { channels = order.channels; voices = order.voices; threads = order.threads }
  ordered-after (GuildMembersChunk chunk) = record { channels = order.channels; voices = order.voices; threads = order.threads }
  ordered-after (VoiceStateUpdate u) = ordered-voice u.voice.user (voice_of u.voice)
  ordered-after (PresenceUpdate p) = ordered-presence p.user _
  ordered-after d = order

-- ---- the part that is shown

module _ {T : Type 0} (key : T → ℕ) (p : T → Bool) where
  -- puts of what the test lets through need no new test
  put_all-filter : (xs ys : List T) → IsById key xs → All (λ y. p y ≡ true) ys → filter p (put_all key xs ys) ≡ put_all key (filter p xs) ys
  put_all-filter xs [] order passes = refl
  put_all-filter xs (y ∷ ys) order passes =
      put_all-filter (put_id key y xs) ys (IsById-put key y xs order) (All-tail (λ y. p y ≡ true) y ys passes)
      ∙ ap (λ zs. put_all key zs ys) (sym (put-filter key p y xs order (All-head (λ y. p y ≡ true) y ys passes)))

module _ (intents bot : ℕ) (shown : ℕ → Bool) (v : OpenView) (order : IsOrdered v) where
  abbrev with_channels : OpenView → List Channel → OpenView
  with_channels w cs = record w { channels = cs }

  abbrev with_voices : OpenView → List Voice → OpenView
  with_voices w xs = record w { voices = xs }

  abbrev with_threads : OpenView → List ThreadView → OpenView
  with_threads w ts = record w { threads = ts }

  put-channel : (c : Channel) → shown c.id ≡ true → only shown (record v { channels = put_id channel_id c v.channels }) ≡ record (only shown v) { channels = put_id channel_id c (filter (shows_channel shown) v.channels) }
  put-channel c is = ap (with_channels (only shown v)) (sym (put-filter channel_id (shows_channel shown) c v.channels order.channels is))

  put-thread : (t : ThreadView) → shown t.parent ≡ true → only shown (record v { threads = put_id thread_view_id t v.threads }) ≡ record (only shown v) { threads = put_id thread_view_id t (filter (shows_thread shown) v.threads) }
  put-thread t is = ap (with_threads (only shown v)) (sym (put-filter thread_view_id (shows_thread shown) t v.threads order.threads is))

  drop-thread : (id : ℕ) → only shown (record v { threads = without_id thread_view_id id v.threads }) ≡ record (only shown v) { threads = without_id thread_view_id id (filter (shows_thread shown) v.threads) }
  drop-thread id = ap (with_threads (only shown v)) (filter-swaps (shows_thread shown) (λ x. not (x.id == id)) v.threads)

  pub drop-channel : (id : ℕ) → only shown (drop_channel id v) ≡ drop_channel id (only shown v)
  drop-channel id =
      let gone : OpenView = drop_channel id v in
      ap (with_channels (only shown gone)) (filter-swaps (shows_channel shown) (λ c. not (c.id == id)) v.channels)
      ∙ (ap (with_threads (record (only shown gone) { channels = without_id channel_id id (filter (shows_channel shown) v.channels) })) (filter-swaps (shows_thread shown) (λ t. not (t.parent == id)) v.threads)
      ∙ ap (with_voices (record (only shown v) { channels = without_id channel_id id (filter (shows_channel shown) v.channels); threads = filter (λ (t : ThreadView). not (t.parent == id)) (filter (shows_thread shown) v.threads) })) (filter-swaps (shows_voice shown) (λ x. not (x.channel == id)) v.voices))

  -- the own membership of a thread that is held is that of the part
  mine-shown : (thread : ℕ) → WasUnder shown v thread → mine_of (find_id thread_view_id thread v.threads) ≡ mine_of (find_id thread_view_id thread (filter (shows_thread shown) v.threads))
  mine-shown thread under = ap mine_of (sym (find-filter thread_view_id (shows_thread shown) thread v.threads order.threads ∙ kept (find_id thread_view_id thread v.threads) under))
    where
      kept : (o : Option ThreadView) → ((t : ThreadView) → o ≡ Some t → shown t.parent ≡ true) → keep_if (shows_thread shown) o ≡ o
      kept None is = refl
      kept (Some t) is = ap (λ b. if b then Some t else None) (is t refl)

  update-thread : (t : ThreadObject) → shown t.parent ≡ true → WasUnder shown v t.id → only shown (update_thread intents t v) ≡ update_thread intents t (only shown v)
  update-thread t is under = by_archived t.archived
    where
      by_archived : (b : Bool) → only shown (if b then record v { threads = without_id thread_view_id t.id v.threads } else record v { threads = put_id thread_view_id (thread_of intents (mine_of (find_id thread_view_id t.id v.threads)) t) v.threads })
          ≡ (if b then record (only shown v) { threads = without_id thread_view_id t.id (filter (shows_thread shown) v.threads) } else record (only shown v) { threads = put_id thread_view_id (thread_of intents (mine_of (find_id thread_view_id t.id (filter (shows_thread shown) v.threads))) t) (filter (shows_thread shown) v.threads) })
      by_archived true = drop-thread t.id
      by_archived false =
          put-thread (thread_of intents (mine_of (find_id thread_view_id t.id v.threads)) t) is
          ∙ ap (λ (mine : Option ThreadMember). record (only shown v) { threads = put_id thread_view_id (thread_of intents mine t) (filter (shows_thread shown) v.threads) }) (mine-shown t.id under)

  sync-threads : (s : Sync) → All (λ (t : ThreadObject). shown t.parent ≡ true) s.threads → only shown (sync_threads intents s v) ≡ sync_threads intents s (only shown v)
  sync-threads s under =
      let others : ThreadView → Bool = λ t. not (contains t.parent s.channels) in
      let told : List ThreadView = map (synced_thread intents s.members) s.threads in
      ap (with_threads (only shown v))
      (put_all-filter thread_view_id (shows_thread shown) (filter others v.threads) told (IsById-filter thread_view_id others v.threads order.threads) (All-map (λ t. shows_thread shown t ≡ true) (synced_thread intents s.members) s.threads under)
      ∙ ap (λ ts. put_all thread_view_id ts told) (filter-swaps (shows_thread shown) others v.threads))

  update-members : (update : MembersUpdate) → only shown (update_members intents bot update v) ≡ update_members intents bot update (only shown v)
  update-members update =
      ap (with_threads (only shown v)) (filter-changed (shows_thread shown) (λ t. if t.id == update.id then members_updated intents bot update t else t) same v.threads)
    where
      same : (t : ThreadView) → shows_thread shown (if t.id == update.id then members_updated intents bot update t else t) ≡ shows_thread shown t
      same t = by_test (t.id == update.id)
        where
          by_test : (b : Bool) → shows_thread shown (if b then members_updated intents bot update t else t) ≡ shows_thread shown t
          by_test true = refl
          by_test false = refl

  set-me : (m : Member) (w : OpenView) → only shown (set_me bot m w) ≡ set_me bot m (only shown w)
  set-me m w = by_test (m.user.id == bot)
    where
      by_test : (b : Bool) → only shown (if b then record w { me = m } else w) ≡ (if b then record (only shown w) { me = m } else only shown w)
      by_test true = refl
      by_test false = refl

  pub end-voice : (user : ℕ) → only shown (set_voice user None v) ≡ set_voice user None (only shown v)
  end-voice user = ap (with_voices (only shown v)) (filter-swaps (shows_voice shown) (λ x. not (x.user == user)) v.voices)

  set-voice : (o : VoiceObject) → ((c : ℕ) → o.channel ≡ Some c → shown c ≡ true) → only shown (set_voice o.user (voice_of o) v) ≡ set_voice o.user (voice_of o) (only shown v)
  set-voice o told = by_channel o.channel refl
    where
      by_channel : (c : Option ℕ) → o.channel ≡ c → only shown (set_voice o.user (option_map (voice_in o) c) v) ≡ set_voice o.user (option_map (voice_in o) c) (only shown v)
      by_channel None e = end-voice o.user
      by_channel (Some c) e = ap (with_voices (only shown v)) (sym (put-filter voice_id (shows_voice shown) (voice_in o c) v.voices order.voices (told c e)))

  set-presence : (user : ℕ) (o : Option Presence) → only shown (set_presence user o v) ≡ set_presence user o (only shown v)
  set-presence user None = refl
  set-presence user (Some p) = refl

  pub open-only : (d : Dispatch) → TellsShown shown v d → only shown (open_after intents bot d v) ≡ open_after intents bot d (only shown v)
  open-only (GuildRoleDelete delete) told = ap (with_channels (only shown (drop_role delete.role v))) (filter-changed (shows_channel shown) (without_role_overwrite delete.role) (λ c. refl) v.channels)
  open-only (ChannelCreate o) told = put-channel (channel_of o) told
  open-only (ChannelUpdate o) told = put-channel (channel_of o) told
  open-only (ChannelDelete o) told = drop-channel o.id
  open-only (ThreadCreate c) told = put-thread (thread_of intents (option_map thread_member_of c.member) c.thread) told
  open-only (ThreadUpdate t) told = update-thread t told.0 told.1
  open-only (ThreadDelete delete) told = drop-thread delete.id
  open-only (ThreadListSync s) told = sync-threads s told
  open-only (ThreadMembersUpdate update) told = update-members update
  open-only (GuildMemberUpdate member) told = set-me (member_of member.member) _
  open-only (VoiceStateUpdate u) told = set-voice u.voice told
  open-only (PresenceUpdate p) told = set-presence p.user _
  open-only d told = refl
