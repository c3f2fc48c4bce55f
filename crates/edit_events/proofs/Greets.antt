-- GUILD_CREATE of all of a guild brings all of it, whatever was held.
use Rattle.std.proofs.Common.{◌≡◌, ℕ, Bool, true, false, List, [], map, Option, Some, None, if◌then◌else◌, refl, sym, ap, subst, ◌∙◌, eq-eqb}
use Rattle.std.specs.Prelude.{◌&&◌, ◌||◌, not, filter, is_some, option_map, option_and_then}
use Rattle.std.specs.List.{filter_map}
use Rattle.std.proofs.lemmas.List.Elements.{All-filter}
use Rattle.collections.specs.ById.{find_id, has_id, put_all, IsById, keep_if}
use Rattle.collections.proofs.Finds.{key-found, find-filter, find-map, IsById-filter, IsById-map}
use Rattle.collections.proofs.Has.{All-found}
use Rattle.collections.proofs.Mapped.{put_all-nil, filter-same, map-after, find-mapped, filter-all}
use Rattle.perm_bits.specs.Bits.{has_bit}
use Rattle.intent_set.specs.Intents.{guilds, guild_members, guild_voice_states, guild_presences}
use Rattle.guild_model.specs.declared.member.Member.{Member}
use Rattle.guild_model.specs.declared.thread.Thread.{Thread}
use Rattle.guild_model.specs.declared.thread.ThreadMember.{ThreadMember}
use Rattle.guild_model.specs.Record.{Record, own_id, role_id, member_id, channel_id, thread_id, thread_member_id, voice_id, presence_id}
use Rattle.guild_model.specs.Ascending.{IsAscending, HoldsInOrder}
use Rattle.dispatch_types.specs.declared.viewer.Viewer.{Viewer}
use Rattle.dispatch_types.specs.declared.view.GuildView.TheVariants.{Open}
use Rattle.dispatch_types.specs.declared.view.OpenView.{OpenView}
use Rattle.dispatch_types.specs.declared.dispatch.Dispatch.TheVariants.{GuildCreate}
use Rattle.dispatch_types.specs.Objects.{channel_of, member_object, member_of, thread_object, voice_of, presence_of}
use Rattle.dispatch_types.specs.Projection.{told, listed, thread_view, seen_threads, is_known, open_view}
use Rattle.dispatch_types.specs.Fold.{Held, thread_view_id, user_id, own_member, thread_of, joined_thread, created, created_view, on_open, purged, folded}
use Rattle.dispatch_types.proofs.Folds.{folded-here}
use Rattle.dispatch_types.proofs.Objects.{channels-back, member-back, members-back, voices-back, presences-back}
use Rattle.dispatch_types.proofs.Views.{purged-open}
use Rattle.event_views.specs.Has.{Has}
use Rattle.event_views.proofs.Lists.{listed-same}
use Rattle.edit_events.specs.Greeting.{is_near, is_shown, is_told, is_large, joined_at, thread_told, whole_greeting}

pub greeting-id : (s : Record) (v : Viewer) (me : Member) → (whole_greeting s v me).id ≡ s.id
unfolding whole_greeting
greeting-id s v me = refl

module _ (s : Record) (v : Viewer) (me : Member) (ascends : IsAscending s) (found : find_id member_id v.user s.members ≡ Some me) where
  own : me.user.id ≡ v.user
  own = key-found member_id v.user s.members me found

  held-roles : IsById own_id me.roles
  held-roles = All-found member_id HoldsInOrder v.user s.members me ascends.held found

  abbrev pub shown : List Member
  shown = filter (is_shown s v) s.members

  -- the users that a client is told of
  abbrev pub told_users : List ℕ
  told_users = put_all own_id [] (map user_id (whole_greeting s v me).members)

  ascends-shown : IsById member_id shown
  ascends-shown = IsById-filter member_id (is_shown s v) s.members ascends.members

  is_shown-me : is_shown s v me ≡ true
  is_shown-me = ap (λ b. (b || has_id voice_id me.user.id s.voices) || (has_bit v.intents guild_presences && (not (is_large s v) || has_id presence_id me.user.id s.presences))) (eq-eqb me.user.id v.user own)

  own-shown : find_id member_id v.user shown ≡ Some me
  own-shown = find-filter member_id (is_shown s v) v.user s.members ascends.members ∙ (ap (keep_if (is_shown s v)) found ∙ ap (λ b. if b then Some me else None) is_shown-me)

  own-told : own_member v.user (whole_greeting s v me).members ≡ Some me
  unfolding whole_greeting
  own-told =
      ap (option_map member_of) (find-mapped member_object member_id user_id (λ m. refl) v.user shown)
      ∙ (ap (λ o. option_map member_of (option_map member_object o)) own-shown ∙ ap (λ (m : Member). Some m) (member-back me held-roles))

  roles-told : put_all role_id [] (whole_greeting s v me).roles ≡ s.roles
  unfolding whole_greeting
  roles-told = put_all-nil role_id s.roles ascends.roles

  channels-told : put_all channel_id [] (map channel_of (whole_greeting s v me).channels) ≡ s.channels
  unfolding whole_greeting
  channels-told = ap (put_all channel_id []) (channels-back s.id s.channels ascends.overwrites) ∙ put_all-nil channel_id s.channels ascends.channels

  users-told : told_users ≡ map member_id shown
  unfolding whole_greeting
  users-told =
      ap (put_all own_id []) (map-after member_object user_id member_id (λ m. refl) shown)
      ∙ put_all-nil own_id (map member_id shown) (IsById-map member_id own_id member_id (λ m. refl) shown ascends-shown)

  -- the client knows those members that stand in the dispatch
  known-shown : (id : ℕ) (m : Member) → find_id member_id id s.members ≡ Some m → is_shown s v m ≡ is_known told_users m
  known-shown id m there =
      let at : find_id member_id m.user.id s.members ≡ Some m = subst (λ k. find_id member_id k s.members ≡ Some m) (sym (key-found member_id id s.members m there)) there in
      sym (ap (has_id own_id m.user.id) users-told
      ∙ (ap (λ o. is_some o) (find-map member_id own_id member_id (λ x. refl) m.user.id shown)
      ∙ (ap (λ o. is_some (option_map member_id o)) (find-filter member_id (is_shown s v) m.user.id s.members ascends.members ∙ ap (keep_if (is_shown s v)) at)
      ∙ by_test (is_shown s v m))))
    where
      by_test : (b : Bool) → is_some (option_map member_id (if b then Some m else None)) ≡ b
      by_test true = refl
      by_test false = refl

  members-told : listed v.intents guild_members (put_all member_id [] (map member_of (whole_greeting s v me).members)) ≡ listed v.intents guild_members (filter (is_known told_users) s.members)
  unfolding whole_greeting
  members-told = listed-same v.intents guild_members _ _ (λ asked.
      ap (put_all member_id []) (members-back shown (All-filter (is_shown s v) HoldsInOrder s.members ascends.held))
      ∙ (put_all-nil member_id shown ascends-shown
      ∙ filter-same member_id (is_shown s v) (is_known told_users) s.members ascends.members known-shown))

  thread-told : (t : Thread) → joined_thread v.intents v.user (thread_told s v t) ≡ thread_view v.intents me.user.id t
  thread-told t =
      ap (λ mine. thread_of v.intents mine (thread_object s.id t))
      (subst (λ user. option_map (λ (joined : ℕ). from_joined joined) (option_map (joined_at s v) (find_id thread_member_id v.user t.members)) ≡ find_id thread_member_id user t.members) (sym own)
      (by_found (find_id thread_member_id v.user t.members) (λ m e. key-found thread_member_id v.user t.members m e)))
    where
      from_joined : ℕ → ThreadMember
      from_joined joined = record { user = v.user; joined = joined }

      by_found : (o : Option ThreadMember) → ((m : ThreadMember) → o ≡ Some m → m.user ≡ v.user) → option_map (λ (joined : ℕ). record { user = v.user; joined = joined }) (option_map (joined_at s v) o) ≡ o
      by_found None is = refl
      by_found (Some m) is = ap (λ (user : ℕ). Some (record m { user = user })) (sym (is m refl))

  threads-told : put_all thread_view_id [] (map (joined_thread v.intents v.user) (whole_greeting s v me).threads) ≡ map (thread_view v.intents me.user.id) (seen_threads s me)
  unfolding whole_greeting
  threads-told =
      ap (put_all thread_view_id []) (map-after (thread_told s v) (joined_thread v.intents v.user) (thread_view v.intents me.user.id) thread-told (seen_threads s me))
      ∙ put_all-nil thread_view_id (map (thread_view v.intents me.user.id) (seen_threads s me)) (IsById-map thread_id thread_view_id (thread_view v.intents me.user.id) (λ t. refl) (seen_threads s me) (IsById-filter thread_id _ s.threads ascends.threads))

  voices-told : put_all voice_id [] (filter_map voice_of (whole_greeting s v me).voices) ≡ listed v.intents guild_voice_states s.voices
  unfolding whole_greeting
  voices-told =
      ap (put_all voice_id []) (voices-back (listed v.intents guild_voice_states s.voices))
      ∙ put_all-nil voice_id (listed v.intents guild_voice_states s.voices) (by_bit (has_bit v.intents guild_voice_states))
    where
      by_bit : (b : Bool) → IsById voice_id (if b then s.voices else [])
      by_bit true = ascends.voices
      by_bit false = tt

  presences-told : listed v.intents guild_presences (put_all presence_id [] (filter_map presence_of (whole_greeting s v me).presences)) ≡ listed v.intents guild_presences s.presences
  unfolding whole_greeting
  presences-told = listed-same v.intents guild_presences _ _ (λ asked.
      ap (put_all presence_id []) (presences-back s.id (filter (is_told s v) s.presences) ∙ filter-all (is_told s v) (λ p. ap (λ b. b || is_near s v p.user) asked) s.presences)
      ∙ put_all-nil presence_id s.presences ascends.presences)

  created-open : created v.intents v.user (whole_greeting s v me) me ≡ open_view s v.intents told_users me
  unfolding whole_greeting
  created-open = cc (roles-told, channels-told, members-told, threads-told, voices-told, presences-told)

  created-told : created_view v.intents v.user (whole_greeting s v me) ≡ told v.intents guilds (Open (open_view s v.intents told_users me))
  created-told =
      ap (option_and_then (λ m. told v.intents guilds (Open (created v.intents v.user (whole_greeting s v me) m)))) own-told
      ∙ ap (λ (view : OpenView). told v.intents guilds (Open view)) created-open

  -- what a client then holds
  folded-greeting : (h : Held) → folded v.intents s.id h (GuildCreate (whole_greeting s v me)) ≡ record { bot = h.bot; view = on_open (purged v.intents s.id) (created_view v.intents h.bot (whole_greeting s v me)); known = told_users }
  folded-greeting h = folded-here v.intents s.id h (GuildCreate (whole_greeting s v me)) (ap (λ id. Some id) (greeting-id s v me)) refl

  pub greets : (h : Held) → has_bit v.intents guilds ≡ true → h.bot ≡ v.user → Has s v me (folded v.intents s.id h (GuildCreate (whole_greeting s v me)))
  greets h asks bot =
      let view : OpenView = open_view s v.intents told_users me in
      let opens : told v.intents guilds (Open view) ≡ Some (Open view) = ap (λ b. if b then Some (Open view) else None) asks in
      let brings : on_open (purged v.intents s.id) (created_view v.intents h.bot (whole_greeting s v me)) ≡ Some (Open view) =
      ap (λ b. on_open (purged v.intents s.id) (created_view v.intents b (whole_greeting s v me))) bot
      ∙ (ap (on_open (purged v.intents s.id)) (created-told ∙ opens)
      ∙ ap (λ (w : OpenView). Some (Open w)) (purged-open s v.intents told_users me)) in
      subst (λ (held : Held). Has s v me held) (sym (folded-greeting h)) (record { bot = bot; view = brings })
