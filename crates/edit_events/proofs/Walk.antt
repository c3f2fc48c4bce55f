-- What holds of each dispatch of an edit, if it holds of each kind that the edit has.
use Rattle.std.proofs.Common.{◌≡◌, ℕ, Bool, true, false, List, [], ◌∷◌, Option, Some, None, refl}
use Rattle.std.specs.Prelude.{◌==◌, All, flat_map}
use Rattle.std.proofs.lemmas.List.Elements.{All-nil, All-head, All-tail, All-append, All-filter}
use Rattle.collections.specs.ById.{find_id, has_id, IsById}
use Rattle.guild_model.specs.declared.channel.Channel.{Channel}
use Rattle.guild_model.specs.declared.member.Member.{Member}
use Rattle.guild_model.specs.declared.thread.Thread.{Thread}
use Rattle.guild_model.specs.declared.thread.ThreadMember.{ThreadMember}
use Rattle.guild_model.specs.declared.user.User.{User}
use Rattle.guild_model.specs.declared.voice.Voice.{Voice}
use Rattle.guild_model.specs.Record.{Record, member_id, channel_id, thread_id, voice_id, presence_id, speaks_in}
use Rattle.dispatch_types.specs.declared.threads.ThreadCreate.{ThreadCreate as Coming}
use Rattle.dispatch_types.specs.declared.threads.ThreadObject.{ThreadObject}
use Rattle.dispatch_types.specs.declared.viewer.Viewer.{Viewer}
use Rattle.dispatch_types.specs.declared.dispatch.Dispatch.{Dispatch}
use Rattle.dispatch_types.specs.declared.dispatch.Dispatch.TheVariants as dispatch
use Rattle.dispatch_types.specs.Objects.{channel_object, thread_object, thread_member_object}
use Rattle.event_views.specs.Ended.{voice_end, voice_ends}
use Rattle.event_views.specs.Threads.{members_update, seen_thread, membership, thread_creates, thread_updates, member_comes, thread_joins, thread_leaves, threads_left, user_leaves}
use Rattle.thread_sync.specs.Sync.{own_membership}
use Rattle.thread_edit.specs.declared.ThreadEdit.{ThreadEdit}
use Rattle.thread_edit.specs.declared.ThreadEdit.TheVariants as thread
use Rattle.thread_events.specs.Dispatches as thread_events
use Rattle.role_member_events.specs.Dispatches.{guild_member, member_told, member_updated, presence_ended, voice_ended, member_ends, member_ended}
use Rattle.channel_events.specs.Dispatches.{voices_in, children_of, told_of, updated, deleted}
use Rattle.voice_presence_events.specs.Dispatches.{presence_told}
use Rattle.channel_privacy.proofs.Asked.{asked-all, each-all}
use Rattle.channel_privacy.proofs.Filters.{each-there}

-- the dispatches that tell of no channel, message, voice state or thread that comes, and neither bring nor take a guild
abbrev pub is_plain : Dispatch → Bool
is_plain (dispatch.Ready ready) = false
is_plain dispatch.Resumed = false
is_plain (dispatch.GuildCreate create) = false
is_plain (dispatch.GuildDelete delete) = false
is_plain (dispatch.ChannelCreate o) = false
is_plain (dispatch.ChannelUpdate o) = false
is_plain (dispatch.ChannelDelete o) = false
is_plain (dispatch.ThreadCreate c) = false
is_plain (dispatch.ThreadUpdate thread) = false
is_plain (dispatch.ThreadListSync sync) = false
is_plain (dispatch.VoiceStateUpdate u) = false
is_plain (dispatch.GuildMembersChunk chunk) = false
is_plain (dispatch.MessageCreate message) = false
is_plain (dispatch.MessageUpdate message) = false
is_plain (dispatch.MessageDelete delete) = false
is_plain (dispatch.MessageReactionAdd reaction) = false
is_plain (dispatch.MessageReactionRemove reaction) = false
is_plain (dispatch.TypingStart typing) = false
is_plain d = true

-- the end of a voice state
abbrev pub ended : ℕ → Voice → Dispatch
ended guild z = dispatch.VoiceStateUpdate (record { guild = guild; voice = voice_end z })

module _ (P : Dispatch → Type 0) (plain : (d : Dispatch) → is_plain d ≡ true → P d) (s t : Record) (v : Viewer) where
  -- a voice state of the record before may end
  abbrev pub Ends : Type 0
  Ends = (user : ℕ) (z : Voice) → find_id voice_id user s.voices ≡ Some z → P (ended t.id z)

  -- a channel of the record after may be told as updated
  abbrev pub Updates : Type 0
  Updates = (channel : ℕ) (c : Channel) → find_id channel_id channel t.channels ≡ Some c → P (dispatch.ChannelUpdate (channel_object t.id c))

  told-all : (o : Option Member) → All P (member_told t v o)
  told-all None = All-nil P
  told-all (Some m) = asked-all P v (m.user.id == v.user) (dispatch.GuildMemberUpdate (guild_member t.id m)) (plain (dispatch.GuildMemberUpdate (guild_member t.id m)) refl)

  pub member_updated-all : (user : ℕ) → All P (member_updated t v user)
  member_updated-all user = told-all (find_id member_id user t.members)

  leaves-all : (user : ℕ) (o : Option Thread) → All P (thread_leaves t.id v user o)
  leaves-all user None = All-nil P
  leaves-all user (Some there) =
      asked-all P v (user == v.user) (dispatch.ThreadMembersUpdate (members_update t.id there [] (user ∷ []))) (plain (dispatch.ThreadMembersUpdate (members_update t.id there [] (user ∷ []))) refl)

  ends-all : (user : User) (presence : Bool) (voice : Option Voice) (threads : List ℕ) → ((z : Voice) → voice ≡ Some z → P (ended t.id z)) → All P (member_ends t v user presence voice threads)
  ends-all user presence voice threads ends =
      All-append P (presence_ended t v user.id presence) _ (by_presence presence)
      (All-append P (voice_ended t v voice) _ (by_voice voice ends)
      (All-append P (user_leaves t.id v user.id t.threads threads) _ (each-all P (λ id. thread_leaves t.id v user.id (find_id thread_id id t.threads)) (λ id. leaves-all user.id (find_id thread_id id t.threads)) threads)
      (asked-all P v (user.id == v.user) (dispatch.GuildMemberRemove (record { guild = t.id; user = user })) (plain (dispatch.GuildMemberRemove (record { guild = t.id; user = user })) refl))))
    where
      by_presence : (b : Bool) → All P (presence_ended t v user.id b)
      by_presence true = asked-all P v false (dispatch.PresenceUpdate (presence_told t.id user.id None)) (plain (dispatch.PresenceUpdate (presence_told t.id user.id None)) refl)
      by_presence false = All-nil P

      by_voice : (o : Option Voice) → ((z : Voice) → o ≡ Some z → P (ended t.id z)) → All P (voice_ended t v o)
      by_voice None at = All-nil P
      by_voice (Some z) at = asked-all P v false (ended t.id z) (at z refl)

  pub removed-all : Ends → (me : Member) (o : Option Member) → All P (member_ended s me t v o)
  removed-all ends me None = All-nil P
  removed-all ends me (Some m) = ends-all m.user (has_id presence_id m.user.id s.presences) (find_id voice_id m.user.id s.voices) (threads_left s me m.user.id) (ends m.user.id)

  pub updated-all : Updates → (channel : ℕ) → All P (updated t v channel)
  updated-all updates channel = by_found (find_id channel_id channel t.channels) (updates channel)
    where
      by_found : (o : Option Channel) → ((c : Channel) → o ≡ Some c → P (dispatch.ChannelUpdate (channel_object t.id c))) → All P (told_of t v dispatch.ChannelUpdate o)
      by_found None at = All-nil P
      by_found (Some c) at = asked-all P v false (dispatch.ChannelUpdate (channel_object t.id c)) (at c refl)

  pub created-all : (o : Option Channel) → ((c : Channel) → o ≡ Some c → P (dispatch.ChannelCreate (channel_object t.id c))) → All P (told_of t v dispatch.ChannelCreate o)
  created-all None at = All-nil P
  created-all (Some c) at = asked-all P v false (dispatch.ChannelCreate (channel_object t.id c)) (at c refl)

  -- the voice states in a channel, if any may end
  pub all_left : ((z : Voice) → P (ended t.id z)) → (channel : ℕ) → All P (flat_map (voice_ends t.id v) (voices_in s channel))
  all_left ends channel = each-all P (voice_ends t.id v) (λ z. asked-all P v false (ended t.id z) (ends z)) (voices_in s channel)

  -- or those of the record before may
  left-among : Ends → (xs : List Voice) → All (λ (z : Voice). find_id voice_id z.user s.voices ≡ Some z) xs → All P (flat_map (voice_ends t.id v) xs)
  left-among ends [] there = All-nil P
  left-among ends (z ∷ xs) there =
      All-append P (voice_ends t.id v z) (flat_map (voice_ends t.id v) xs)
      (asked-all P v false (ended t.id z) (ends z.user z (All-head (λ (z : Voice). find_id voice_id z.user s.voices ≡ Some z) z xs there)))
      (left-among ends xs (All-tail (λ (z : Voice). find_id voice_id z.user s.voices ≡ Some z) z xs there))

  pub left-all : IsById voice_id s.voices → Ends → (channel : ℕ) → All P (flat_map (voice_ends t.id v) (voices_in s channel))
  left-all order ends channel = left-among ends (voices_in s channel) (All-filter (speaks_in channel) (λ (z : Voice). find_id voice_id z.user s.voices ≡ Some z) s.voices (each-there voice_id s.voices order))

  pub deleted-all : ((channel : ℕ) → All P (flat_map (voice_ends t.id v) (voices_in s channel))) → Updates → (o : Option Channel) → ((c : Channel) → o ≡ Some c → P (dispatch.ChannelDelete (channel_object t.id c))) → All P (deleted s t v o)
  deleted-all left updates None gone = All-nil P
  deleted-all left updates (Some c) gone =
      All-append P _ _ (left c.id)
      (All-append P _ _ (each-all P (updated t v) (updated-all updates) (children_of s c.id))
      (asked-all P v false (dispatch.ChannelDelete (channel_object t.id c)) (gone c refl)))

  -- ---- threads
  module _ (comes : (c : Coming) → P (dispatch.ThreadCreate c)) (updates : (there : ThreadObject) → P (dispatch.ThreadUpdate there)) where
    creates-all : (newly : Bool) (o : Option Thread) → All P (thread_creates t.id v newly o)
    creates-all newly None = All-nil P
    creates-all newly (Some there) =
        asked-all P v false (dispatch.ThreadCreate (record { thread = thread_object t.id there; newly_created = newly; member = own_membership v.user there })) (comes (record { thread = thread_object t.id there; newly_created = newly; member = own_membership v.user there }))

    updates-all : (o : Option Thread) → All P (thread_updates t.id v o)
    updates-all None = All-nil P
    updates-all (Some there) = asked-all P v false (dispatch.ThreadUpdate (thread_object t.id there)) (updates (thread_object t.id there))

    member-all : (there : Thread) (o : Option ThreadMember) → All P (member_comes t.id v there o)
    member-all there None = All-nil P
    member-all there (Some m) =
        asked-all P v (m.user == v.user) (dispatch.ThreadMembersUpdate (members_update t.id there (thread_member_object there.id m ∷ []) [])) (plain (dispatch.ThreadMembersUpdate (members_update t.id there (thread_member_object there.id m ∷ []) [])) refl)

    joins-all : (user : ℕ) (o : Option Thread) → All P (thread_joins t.id v user o)
    joins-all user None = All-nil P
    joins-all user (Some there) = member-all there (membership user there)

    pub threads-all : (me me' : Member) (e : ThreadEdit) → All P (thread_events.thread_dispatches s me t me' v e)
    threads-all me me' (thread.ThreadCreate e) = creates-all true (seen_thread t me' e.thread)
    threads-all me me' (thread.ThreadRename e) = updates-all (seen_thread t me' e.thread)
    threads-all me me' (thread.ThreadArchive id) = updates-all (seen_thread t me' id)
    threads-all me me' (thread.ThreadUnarchive id) = All-append P (thread_updates t.id v (seen_thread t me' id)) _ (updates-all (seen_thread t me' id)) (joins-all v.user (seen_thread t me' id))
    threads-all me me' (thread.ThreadDelete id) = by_was (seen_thread s me id)
      where
        by_was : (o : Option Thread) → All P (thread_events.deleted o t.id v id)
        by_was None = All-nil P
        by_was (Some was) =
            asked-all P v false (dispatch.ThreadDelete (record { guild = t.id; id = id; parent = was.parent; kind = was.kind })) (plain (dispatch.ThreadDelete (record { guild = t.id; id = id; parent = was.parent; kind = was.kind })) refl)
    threads-all me me' (thread.ThreadJoin e) = by_was (seen_thread s me e.thread)
      where
        by_was : (o : Option Thread) → All P (thread_events.joined o t v me' e)
        by_was None = creates-all false (seen_thread t me' e.thread)
        by_was (Some was) = joins-all e.user (find_id thread_id e.thread t.threads)
    threads-all me me' (thread.ThreadLeave e) = by_was (seen_thread s me e.thread)
      where
        by_was : (o : Option Thread) → All P (thread_events.left o t v e)
        by_was None = All-nil P
        by_was (Some was) = leaves-all e.user (find_id thread_id e.thread t.threads)
