-- After what an edit owes, a client holds the projection of the record after it.
use Rattle.std.proofs.Common.{◌≡◌, ℕ, Bool, true, false, not, ◌&&◌, ◌||◌, List, [], ◌∷◌, ◌++◌, length, Option, Some, None, if◌then◌else◌, refl, sym, ap, subst, ◌∙◌, eq-eqb}
use Rattle.std.specs.Prelude.{All, ◌==◌, is_some}
use Rattle.std.specs.Option.{is_none}
use Rattle.std.proofs.lemmas.List.Elements.{All-nil, All-weaker}
use Rattle.collections.specs.ById.{find_id, has_id, without_id}
use Rattle.collections.proofs.Finds.{key-found}
use Rattle.collections.proofs.Has.{has-changed, has-map, has-left, has-without}
use Rattle.perm_bits.specs.Bits.{has_bit}
use Rattle.intent_set.specs.Intents.{guilds}
use Rattle.guild_model.specs.declared.channel.Channel.{Channel}
use Rattle.guild_model.specs.declared.member.Member.{Member}
use Rattle.guild_model.specs.declared.presence.ShownStatus.{ShownStatus}
use Rattle.guild_model.specs.declared.verdict.Verdict.{Verdict}
use Rattle.guild_model.specs.declared.verdict.Verdict.TheVariants.{NotOpen, AlreadyOpen, IdTaken, Unavailable}
use Rattle.guild_model.specs.Record.{Record, member_id, channel_id, thread_id}
use Rattle.guild_model.specs.Consistent.{is_channel_or_thread}
use Rattle.guild_model.specs.Ascending.{IsAscending, IsWell}
use Rattle.guild_model.specs.Sight.{standing, sees}
use Rattle.guild_model.specs.Shown.{shown_part}
use Rattle.guild_model.specs.Statuses.{status_shown}
use Rattle.guild_model.specs.Tests.{refused_if, too_long, too_many, unknown_member}
use Rattle.guild_model.proofs.Tests.{first_passes, not_refused}
use Rattle.dispatch_types.specs.declared.viewer.Viewer.{Viewer}
use Rattle.dispatch_types.specs.declared.view.GuildView.TheVariants as view
use Rattle.dispatch_types.specs.declared.dispatch.Dispatch.{Dispatch}
use Rattle.dispatch_types.specs.declared.dispatch.Dispatch.TheVariants.{GuildCreate, GuildUpdate, GuildDelete, GuildRoleCreate, GuildRoleUpdate, GuildRoleDelete, GuildMemberAdd, PresenceUpdate}
use Rattle.dispatch_types.specs.Serves.{served}
use Rattle.dispatch_types.specs.Fold.{Held, if_unavailable, on_open, purged, folded, fold_from}
use Rattle.dispatch_types.proofs.Folds.{folded-here}
use Rattle.dispatch_types.proofs.Views.{projection-blind, projection-unserved, projection-open, projection-out}
use Rattle.thread_sync.specs.Shown.{shown_to}
use Rattle.event_views.specs.Synced.{synced}
use Rattle.event_views.specs.Has.{Has}
use Rattle.event_views.proofs.Steps.{IsOf, asked-of}
use Rattle.event_views.proofs.Blind.{IsBlind, blind-fold}
use Rattle.role_member_edit.specs.declared.RoleMemberEdit.{RoleMemberEdit}
use Rattle.role_member_edit.specs.declared.RoleMemberEdit.TheVariants.{RoleCreate, RoleUpdate, RoleDelete, MemberAdd, MemberRemove, MemberNick, MemberTimeout, MemberRoleAdd, MemberRoleRemove}
use Rattle.role_member_edit.specs.RoleMember.{role_member_verdict, role_member_applied}
use Rattle.role_member_events.specs.Dispatches.{guild_role, added_member, role_updates, role_deletes, member_updated}
use Rattle.channel_edit.specs.declared.ChannelEdit.{ChannelEdit}
use Rattle.channel_edit.specs.declared.ChannelEdit.TheVariants.{ChannelCreate, ChannelUpdate, ChannelDelete, OverwriteSet, OverwriteDelete}
use Rattle.channel_edit.specs.declared.ChannelCreate.{ChannelCreate as Create}
use Rattle.channel_edit.specs.Channels.{unknown_parent, wrong_parent, channel_create_verdict, with_settings}
use Rattle.channel_edit.specs.ChannelEnd.{orphaned, channel_deleted}
use Rattle.channel_edit.specs.OverwriteEdits.{with_overwrite, without_overwrite, overwrite_of}
use Rattle.channel_edit.specs.ChannelEdits.{channel_verdict, channel_applied}
use Rattle.channel_events.specs.Dispatches.{updated}
use Rattle.thread_edit.specs.declared.ThreadEdit.{ThreadEdit}
use Rattle.thread_edit.specs.declared.ThreadEdit.TheVariants as thread
use Rattle.thread_edit.specs.ThreadEdits.{thread_verdict, thread_applied}
use Rattle.voice_presence.specs.declared.VoicePresenceEdit.{VoicePresenceEdit}
use Rattle.voice_presence.specs.declared.VoicePresenceEdit.TheVariants.{VoiceSet, PresenceSet}
use Rattle.voice_presence.specs.declared.voice_set.VoiceSet.{VoiceSet as Setting}
use Rattle.voice_presence.specs.Voices.{with_voice}
use Rattle.voice_presence.specs.Presences.{with_shown_status}
use Rattle.voice_presence.specs.VoicePresence.{voice_presence_verdict, voice_presence_applied}
use Rattle.voice_presence_events.specs.Dispatches.{presence_told, voice_told}
use Rattle.message_edit.specs.declared.MessageEdit.{MessageEdit}
use Rattle.message_edit.specs.MessageEdits.{message_verdict, message_applied}
use Rattle.message_events.specs.Messages.{is_message}
use Rattle.message_events.specs.Notes.{message_note}
use Rattle.message_events.proofs.Follows.{message-here, message-served}
use Rattle.message_events.proofs.Of.{IsMessageOf, all-messages}
use Rattle.edit_apply.specs.declared.guild.GuildEdit.TheVariants.{GuildOpen, GuildRename, GuildOwner, GuildOutage, GuildBack, GuildPrivate}
use Rattle.edit_apply.specs.declared.Edit.{Edit}
use Rattle.edit_apply.specs.declared.Edit.TheVariants as edit
use Rattle.edit_apply.specs.Guilds.{out_of_service}
use Rattle.edit_apply.specs.Edits.{verdict, applied, after, after_verdict}
use Rattle.edit_apply.proofs.Well.{keeps}
use Rattle.whole_events.specs.Dispatches.{guild_updated, whole_dispatches}
use Rattle.whole_events.specs.Law.{Between}
use Rattle.whole_events.proofs.Follows.{edit_follows}
use Rattle.message_gate.proofs.ByMember.{served-member}
use Rattle.whole_events.proofs.Others.{id-kept, dispatches-of}
use Rattle.channel_privacy.specs.Withheld.{Showing, withheld}
use Rattle.channel_privacy.specs.Law.{showing}
use Rattle.channel_privacy.proofs.Asked.{asked-all}
use Rattle.channel_privacy.proofs.Rows.{Fits}
use Rattle.edit_events.specs.Greeting.{greeting}
use Rattle.edit_events.specs.Due.{guild_gone, guild_comes, withholds, told_of, dispatches, due_to, due_of_accepted, due}
use Rattle.edit_events.specs.Law.{Agrees, EditKeeps, GreetingHolds}
use Rattle.edit_events.proofs.Flags.{thread-flag, voice_presence-flag, message-flag, message-standing}
use Rattle.edit_events.proofs.Greets.{greets, greeting-id}
use Rattle.edit_events.proofs.Shown.{sees-shown}
use Rattle.edit_events.proofs.Fits.{ended-fits, member_updated-fits, updated-fits, created-fits, deleted-fits, messages-fit, sync-fits, threads-fit}
use Rattle.edit_events.proofs.Has.{HasShown, whole, rows-keep, plain-keep, threads-keep, voice-keep, messages-keep, to-all, from-all, HoldsShown}
use Rattle.edit_events.proofs.Part.{part-ascends, shown-open}
use Rattle.channel_privacy.proofs.Each.{withheld-each}

-- neither of two
or-false : (a b : Bool) → (a || b) ≡ false → (a ≡ false) × (b ≡ false)
or-false true b e = absurd (cc)
or-false false b e = (refl, e)

-- ---- a guild that comes and goes

stays-away : (s t : Record) (v : Viewer) (h : Held) → served v s ≡ None → served v t ≡ None → Agrees s v h → Agrees t v h
stays-away s t v h before now agrees = record { bot = agrees.bot; view = agrees.view ∙ (projection-unserved s v h.known before ∙ sym (projection-unserved t v h.known now)) }

blind-agrees : (t : Record) (v : Viewer) (h : Held) → has_bit v.intents guilds ≡ false → IsBlind v.user h → Agrees t v h
blind-agrees t v h lacks blind = record { bot = blind.bot; view = blind.view ∙ sym (projection-blind t v h.known lacks) }

-- GUILD_CREATE brings what is shown, whatever was held
pub greets-shown : (t : Record) (v : Viewer) (h : Held) (me : Member) → IsAscending t → t.outage ≡ false → has_bit v.intents guilds ≡ true → h.bot ≡ v.user → served v t ≡ Some me
    → Agrees t v (folded v.intents t.id h (GuildCreate (greeting t v me)))
greets-shown t v h me ascends here asks bot is =
    let brings : Has (shown_part t me) v me (folded v.intents t.id h (GuildCreate (greeting t v me))) = greets (shown_part t me) v me (part-ascends t.private t me ascends) (served-member v t me is) h asks bot in
    record { bot = brings.bot; view = brings.view ∙ sym (projection-open t v (folded v.intents t.id h (GuildCreate (greeting t v me))).known me asks is here) }

comes : (t : Record) (v : Viewer) (h : Held) (me : Member) → IsAscending t → t.outage ≡ false → h.bot ≡ v.user → (has_bit v.intents guilds ≡ false → h.view ≡ None) → served v t ≡ Some me
    → Agrees t v (fold_from v.intents t.id h (guild_comes t v me))
comes t v h me ascends here bot none is = by_intents (has_bit v.intents guilds) refl
  where
    by_intents : (b : Bool) → has_bit v.intents guilds ≡ b → Agrees t v (fold_from v.intents t.id h (if b then GuildCreate (greeting t v me) ∷ [] else []))
    by_intents true asks = greets-shown t v h me ascends here asks bot is
    by_intents false lacks = blind-agrees t v h lacks (record { bot = bot; view = none lacks })

folded-gone : (intents guild : ℕ) (h : Held) (unavailable : Bool) → folded intents guild h (GuildDelete (record { id = guild; unavailable = unavailable })) ≡ record { bot = h.bot; view = on_open (purged intents guild) (if_unavailable intents unavailable); known = [] }
folded-gone intents guild h unavailable = folded-here intents guild h (GuildDelete (record { id = guild; unavailable = unavailable })) refl refl

goes : (t : Record) (v : Viewer) (h : Held) → h.bot ≡ v.user → (has_bit v.intents guilds ≡ false → h.view ≡ None) → served v t ≡ None
    → Agrees t v (fold_from v.intents t.id h (guild_gone t.id v false))
goes t v h bot none is = by_intents (has_bit v.intents guilds) refl
  where
    by_intents : (b : Bool) → has_bit v.intents guilds ≡ b → Agrees t v (fold_from v.intents t.id h (if b then GuildDelete (record { id = t.id; unavailable = false }) ∷ [] else []))
    by_intents true asks = subst (λ (held : Held). Agrees t v held) (sym (folded-gone v.intents t.id h false)) (record { bot = bot; view = sym (projection-unserved t v [] is) })
    by_intents false lacks = blind-agrees t v h lacks (record { bot = bot; view = none lacks })

falls-out : (t : Record) (v : Viewer) (h : Held) (me : Member) → h.bot ≡ v.user → (has_bit v.intents guilds ≡ false → h.view ≡ None) → served v t ≡ Some me → t.outage ≡ true
    → Agrees t v (fold_from v.intents t.id h (guild_gone t.id v true))
falls-out t v h me bot none is out = by_intents (has_bit v.intents guilds) refl
  where
    by_intents : (b : Bool) → has_bit v.intents guilds ≡ b → Agrees t v (fold_from v.intents t.id h (if b then GuildDelete (record { id = t.id; unavailable = true }) ∷ [] else []))
    by_intents true asks =
        let tells : on_open (purged v.intents t.id) (if_unavailable v.intents true) ≡ Some view.Unavailable = ap (λ b. on_open (purged v.intents t.id) (if b then Some view.Unavailable else None)) asks in
        subst (λ (held : Held). Agrees t v held) (sym (folded-gone v.intents t.id h true)) (record { bot = bot; view = tells ∙ sym (projection-out t v [] me asks is out) })
    by_intents false lacks = blind-agrees t v h lacks (record { bot = bot; view = none lacks })

-- ---- a viewer that is served before and after an edit of a guild that is available
module _ (s : Record) (e : Edit) (v : Viewer) (me me' : Member) (well : IsWell s) (well' : IsWell (applied s e)) (ok : verdict s e ≡ None) (is : served v s ≡ Some me) (is' : served v (applied s e) ≡ Some me')
    (asks : has_bit v.intents guilds ≡ true) (here : s.outage ≡ false) (here' : (applied s e).outage ≡ false) (h : Held) (has : HoldsShown s v me h) where
  abbrev t : Record
  t = applied s e

  abbrev x : Showing
  x = showing s.private s me t.private t me'

  abbrev F : Dispatch → Type 0
  F = Fits v.intents s.id s t x

  same : t.id ≡ s.id
  same = id-kept s e

  -- of these dispatches, told to one that holds what is shown
  abbrev Follows : List Dispatch → Type 0
  Follows ds = HoldsShown t v me' (fold_from v.intents s.id h (told_of s me t me' v (s.private || t.private) ds))

  between : Between s e v me me'
  between = record { well = well; accepted = ap is_none ok; is = is; is' = is'; here = here; here' = here' }

  kept : Has t v me' (fold_from v.intents s.id (whole s v me h) (whole_dispatches s me t me' v e))
  kept = edit_follows s e v me me' (whole s v me h) between asks (record { bot = has.bot; view = refl })

  of : All (IsOf t.id) (whole_dispatches s me t me' v e)
  of = dispatches-of s me t me' v e

  -- where nothing is withheld, as one that holds the whole guild
  open-follows : s.private ≡ false → t.private ≡ false → HoldsShown t v me' (fold_from v.intents s.id h (whole_dispatches s me t me' v e))
  open-follows shows shows' =
      from-all t v me' (fold_from v.intents s.id h (whole_dispatches s me t me' v e)) shows' (edit_follows s e v me me' h between asks (to-all s v me h shows has))

  by_flag : HoldsShown t v me' (fold_from v.intents s.id h (withheld s t x v (whole_dispatches s me t me' v e))) → Follows (whole_dispatches s me t me' v e)
  by_flag listed = by_test (s.private || t.private) refl
    where
      by_test : (b : Bool) → (s.private || t.private) ≡ b → HoldsShown t v me' (fold_from v.intents s.id h (told_of s me t me' v b (whole_dispatches s me t me' v e)))
      by_test true either = listed
      by_test false neither = let parts = or-false s.private t.private neither in open-follows parts.0 parts.1

  plain : All F (whole_dispatches s me t me' v e) → Follows (whole_dispatches s me t me' v e)
  plain fits = by_flag (plain-keep s.private t.private s t v me me' well well' asks same h (whole_dispatches s me t me' v e) has of fits kept)

  with_sync : (ds : List Dispatch) → whole_dispatches s me t me' v e ≡ ds ++ synced s me t me' v → All F ds → Follows (whole_dispatches s me t me' v e)
  with_sync ds split fits =
      let told : List Dispatch = synced s me t me' v in
      by_flag (subst (λ (es : List Dispatch). HoldsShown t v me' (fold_from v.intents s.id h (withheld s t x v es))) (sym split)
      (rows-keep s.private t.private s t v me me' well well' asks same h ds told has (subst (λ (es : List Dispatch). All (IsOf t.id) es) split of) fits
      (sync-fits s t v x me' (λ id e. sees-shown t.private (sees (standing t me') id) e) asks same (shown_to s me))
      (subst (λ (es : List Dispatch). Has t v me' (fold_from v.intents s.id (whole s v me h) es)) split kept)))

-- ---- edit by edit

-- the channel of an edit that creates one is new
id_free : (s : Record) (e : Create) → channel_create_verdict s e ≡ None → has_id channel_id e.channel s.channels ≡ false
id_free s e ok =
    let later = unknown_parent s e.parent ∷ wrong_parent s e.kind e.parent ∷ too_many 500 (length s.channels) ∷ too_long 100 e.name ∷ [] in
    no_channel (has_id channel_id e.channel s.channels)
    (not_refused (is_channel_or_thread s e.channel) IdTaken (first_passes (refused_if (is_channel_or_thread s e.channel) IdTaken) later ok).0)
  where
    no_channel : (b : Bool) → (b || has_id thread_id e.channel s.threads) ≡ false → b ≡ false
    no_channel true e = absurd (cc)
    no_channel false e = refl

-- the channels that a deletion leaves stood before it, and the deleted one does not
pub left-stood : (s : Record) (channel id : ℕ) → has_id channel_id id (channel_deleted s channel).channels ≡ true → has_id channel_id id s.channels ≡ true
left-stood s channel id there =
    (has-left channel_id channel id s.channels (sym (has-map channel_id (orphaned channel) (λ c. refl) id (without_id channel_id channel s.channels)) ∙ there)).1

is-gone : (s : Record) (channel : ℕ) → has_id channel_id channel (channel_deleted s channel).channels ≡ false
is-gone s channel =
    has-map channel_id (orphaned channel) (λ c. refl) channel (without_id channel_id channel s.channels)
    ∙ (has-without channel_id channel channel s.channels ∙ ap (λ b. not b && has_id channel_id channel s.channels) (eq-eqb channel channel refl))

-- what a member sees rests on neither threads nor voice states
thread-sight : (s : Record) (e : ThreadEdit) (v : Viewer) (me me' : Member) → served v s ≡ Some me → served v (thread_applied s e) ≡ Some me' → standing (thread_applied s e) me' ≡ standing s me
thread-sight s (thread.ThreadCreate e) v me me' is is' = let mine : me' ≡ me = cc in ap (λ (m : Member). standing s m) mine
thread-sight s (thread.ThreadRename e) v me me' is is' = let mine : me' ≡ me = cc in ap (λ (m : Member). standing s m) mine
thread-sight s (thread.ThreadArchive id) v me me' is is' = let mine : me' ≡ me = cc in ap (λ (m : Member). standing s m) mine
thread-sight s (thread.ThreadUnarchive id) v me me' is is' = let mine : me' ≡ me = cc in ap (λ (m : Member). standing s m) mine
thread-sight s (thread.ThreadDelete id) v me me' is is' = let mine : me' ≡ me = cc in ap (λ (m : Member). standing s m) mine
thread-sight s (thread.ThreadJoin e) v me me' is is' = let mine : me' ≡ me = cc in ap (λ (m : Member). standing s m) mine
thread-sight s (thread.ThreadLeave e) v me me' is is' = let mine : me' ≡ me = cc in ap (λ (m : Member). standing s m) mine

voice-sight : (s : Record) (e : Setting) (v : Viewer) (me me' : Member) → served v s ≡ Some me → served v (with_voice s e e.channel) ≡ Some me' → standing (with_voice s e e.channel) me' ≡ standing s me
voice-sight s e v me me' is is' = by_channel e.channel is'
  where
    by_channel : (o : Option ℕ) → served v (with_voice s e o) ≡ Some me' → standing (with_voice s e o) me' ≡ standing s me
    by_channel None served' = let mine : me' ≡ me = cc in ap (λ (m : Member). standing s m) mine
    by_channel (Some channel) served' = let mine : me' ≡ me = cc in ap (λ (m : Member). standing s m) mine

keep-role_member : (s : Record) (e : RoleMemberEdit) (v : Viewer) (me me' : Member) → IsWell s → IsWell (role_member_applied s e) → verdict s (edit.RoleMember e) ≡ None → served v s ≡ Some me → served v (role_member_applied s e) ≡ Some me'
    → has_bit v.intents guilds ≡ true → s.outage ≡ false → (role_member_applied s e).outage ≡ false → (h : Held) → HoldsShown s v me h
    → HoldsShown (role_member_applied s e) v me' (fold_from v.intents s.id h (dispatches s me (role_member_applied s e) me' v (edit.RoleMember e)))
keep-role_member s (RoleCreate body) v me me' well well' ok is is' asks here here' h has =
    let e : Edit = edit.RoleMember (RoleCreate body) in
    plain s e v me me' well well' ok is is' asks here here' h has (asked-all (F s e v me me' well well' ok is is' asks here here' h has) v false (GuildRoleCreate (guild_role s.id body)) tt)
keep-role_member s (RoleUpdate body) v me me' well well' ok is is' asks here here' h has =
    let e : Edit = edit.RoleMember (RoleUpdate body) in
    with_sync s e v me me' well well' ok is is' asks here here' h has (role_updates (applied s e) v body) refl (asked-all (F s e v me me' well well' ok is is' asks here here' h has) v false (GuildRoleUpdate (guild_role s.id body)) tt)
keep-role_member s (RoleDelete role) v me me' well well' ok is is' asks here here' h has =
    let e : Edit = edit.RoleMember (RoleDelete role) in
    with_sync s e v me me' well well' ok is is' asks here here' h has (role_deletes (applied s e) v role) refl (asked-all (F s e v me me' well well' ok is is' asks here here' h has) v false (GuildRoleDelete (record { guild = s.id; role = role })) tt)
keep-role_member s (MemberAdd add) v me me' well well' ok is is' asks here here' h has =
    let e : Edit = edit.RoleMember (MemberAdd add) in
    plain s e v me me' well well' ok is is' asks here here' h has (asked-all (F s e v me me' well well' ok is is' asks here here' h has) v (add.user == v.user) (GuildMemberAdd (added_member s.id add)) tt)
keep-role_member s (MemberRemove user) v me me' well well' ok is is' asks here here' h has =
    let e : Edit = edit.RoleMember (MemberRemove user) in
    plain s e v me me' well well' ok is is' asks here here' h has (ended-fits s (applied s e) v (x s e v me me' well well' ok is is' asks here here' h has) me (find_id member_id user s.members))
keep-role_member s (MemberNick nick) v me me' well well' ok is is' asks here here' h has =
    let e : Edit = edit.RoleMember (MemberNick nick) in
    plain s e v me me' well well' ok is is' asks here here' h has (member_updated-fits s (applied s e) v (x s e v me me' well well' ok is is' asks here here' h has) nick.user)
keep-role_member s (MemberTimeout timeout) v me me' well well' ok is is' asks here here' h has =
    let e : Edit = edit.RoleMember (MemberTimeout timeout) in
    plain s e v me me' well well' ok is is' asks here here' h has (member_updated-fits s (applied s e) v (x s e v me me' well well' ok is is' asks here here' h has) timeout.user)
keep-role_member s (MemberRoleAdd held) v me me' well well' ok is is' asks here here' h has =
    let e : Edit = edit.RoleMember (MemberRoleAdd held) in
    with_sync s e v me me' well well' ok is is' asks here here' h has (member_updated (applied s e) v held.user) refl (member_updated-fits s (applied s e) v (x s e v me me' well well' ok is is' asks here here' h has) held.user)
keep-role_member s (MemberRoleRemove held) v me me' well well' ok is is' asks here here' h has =
    let e : Edit = edit.RoleMember (MemberRoleRemove held) in
    with_sync s e v me me' well well' ok is is' asks here here' h has (member_updated (applied s e) v held.user) refl (member_updated-fits s (applied s e) v (x s e v me me' well well' ok is is' asks here here' h has) held.user)

keep-channel : (s : Record) (e : ChannelEdit) (v : Viewer) (me me' : Member) → IsWell s → IsWell (channel_applied s e) → verdict s (edit.Channel e) ≡ None → served v s ≡ Some me → served v (channel_applied s e) ≡ Some me'
    → has_bit v.intents guilds ≡ true → s.outage ≡ false → (channel_applied s e).outage ≡ false → (h : Held) → HoldsShown s v me h
    → HoldsShown (channel_applied s e) v me' (fold_from v.intents s.id h (dispatches s me (channel_applied s e) me' v (edit.Channel e)))
keep-channel s (ChannelCreate create) v me me' well well' ok is is' asks here here' h has =
    let e : Edit = edit.Channel (ChannelCreate create) in
    let tests = first_passes (out_of_service s) (channel_create_verdict s create ∷ []) ok in
    let new : has_id channel_id create.channel s.channels ≡ false = id_free s create (first_passes (channel_create_verdict s create) [] tests.1).0 in
    plain s e v me me' well well' ok is is' asks here here' h has
    (created-fits s (applied s e) v (x s e v me me' well well' ok is is' asks here here' h has) create.channel new (find_id channel_id create.channel (applied s e).channels) (λ c found. key-found channel_id create.channel (applied s e).channels c found))
keep-channel s (ChannelUpdate update) v me me' well well' ok is is' asks here here' h has =
    let e : Edit = edit.Channel (ChannelUpdate update) in
    plain s e v me me' well well' ok is is' asks here here' h has
    (updated-fits s (applied s e) v (x s e v me me' well well' ok is is' asks here here' h has) (λ id there. sym (has-changed channel_id update.channel (with_settings update) (λ c. refl) id s.channels) ∙ there) update.channel)
keep-channel s (ChannelDelete channel) v me me' well well' ok is is' asks here here' h has =
    let e : Edit = edit.Channel (ChannelDelete channel) in
    plain s e v me me' well well' ok is is' asks here here' h has
    (deleted-fits s (applied s e) v (x s e v me me' well well' ok is is' asks here here' h has) (left-stood s channel) (find_id channel_id channel s.channels)
    (λ c found. let at : c.id ≡ channel = key-found channel_id channel s.channels c found in
    (subst (λ id. has_id channel_id id s.channels ≡ true) (sym at) (ap (λ (o : Option Channel). is_some o) found), subst (λ id. has_id channel_id id (channel_deleted s channel).channels ≡ false) (sym at) (is-gone s channel))))
keep-channel s (OverwriteSet set) v me me' well well' ok is is' asks here here' h has =
    let e : Edit = edit.Channel (OverwriteSet set) in
    with_sync s e v me me' well well' ok is is' asks here here' h has (updated (applied s e) v set.channel) refl
    (updated-fits s (applied s e) v (x s e v me me' well well' ok is is' asks here here' h has) (λ id there. sym (has-changed channel_id set.channel (with_overwrite set.kind (overwrite_of set)) (λ c. refl) id s.channels) ∙ there) set.channel)
keep-channel s (OverwriteDelete delete) v me me' well well' ok is is' asks here here' h has =
    let e : Edit = edit.Channel (OverwriteDelete delete) in
    with_sync s e v me me' well well' ok is is' asks here here' h has (updated (applied s e) v delete.channel) refl
    (updated-fits s (applied s e) v (x s e v me me' well well' ok is is' asks here here' h has) (λ id there. sym (has-changed channel_id delete.channel (without_overwrite delete.kind delete.id) (λ c. refl) id s.channels) ∙ there) delete.channel)

keep-thread : (s : Record) (e : ThreadEdit) (v : Viewer) (me me' : Member) → IsWell s → IsWell (thread_applied s e) → verdict s (edit.Thread e) ≡ None → served v s ≡ Some me → served v (thread_applied s e) ≡ Some me'
    → has_bit v.intents guilds ≡ true → s.outage ≡ false → (thread_applied s e).outage ≡ false → (h : Held) → HoldsShown s v me h
    → HoldsShown (thread_applied s e) v me' (fold_from v.intents s.id h (dispatches s me (thread_applied s e) me' v (edit.Thread e)))
keep-thread s e v me me' well well' ok is is' asks here here' h has =
    let t : Record = thread_applied s e in
    let ds : List Dispatch = whole_dispatches s me t me' v (edit.Thread e) in
    by_flag s (edit.Thread e) v me me' well well' ok is is' asks here here' h has
    (subst (λ (p : Bool). HasShown p t v me' (fold_from v.intents s.id h (withheld s t (showing s.private s me p t me') v ds))) (sym (thread-flag s e))
    (threads-keep s.private s t v me me' well (id-kept s (edit.Thread e)) (thread-sight s e v me me' is is') h ds has
    (dispatches-of s me t me' v (edit.Thread e)) (threads-fit t me' v s.id s.private s me e)
    (kept s (edit.Thread e) v me me' well well' ok is is' asks here here' h has)))

keep-voice : (s : Record) (e : Setting) (v : Viewer) (me me' : Member) → IsWell s → IsWell (with_voice s e e.channel) → verdict s (edit.VoicePresence (VoiceSet e)) ≡ None → served v s ≡ Some me → served v (with_voice s e e.channel) ≡ Some me'
    → has_bit v.intents guilds ≡ true → s.outage ≡ false → (with_voice s e e.channel).outage ≡ false → (h : Held) → HoldsShown s v me h
    → HoldsShown (with_voice s e e.channel) v me' (fold_from v.intents s.id h (dispatches s me (with_voice s e e.channel) me' v (edit.VoicePresence (VoiceSet e))))
keep-voice s e v me me' well well' ok is is' asks here here' h has =
    let t : Record = with_voice s e e.channel in
    let ds : List Dispatch = whole_dispatches s me t me' v (edit.VoicePresence (VoiceSet e)) in
    by_flag s (edit.VoicePresence (VoiceSet e)) v me me' well well' ok is is' asks here here' h has
    (subst (λ (p : Bool). HasShown p t v me' (fold_from v.intents s.id h (withheld s t (showing s.private s me p t me') v ds))) (sym (voice_presence-flag s (VoiceSet e)))
    (voice-keep s.private s t v me me' well (id-kept s (edit.VoicePresence (VoiceSet e))) (voice-sight s e v me me' is is') h (record { guild = t.id; voice = voice_told e }) has refl
    (kept s (edit.VoicePresence (VoiceSet e)) v me me' well well' ok is is' asks here here' h has)))

keep-message : (s : Record) (e : MessageEdit) (v : Viewer) (me me' : Member) → IsWell s → IsWell (message_applied s e) → verdict s (edit.Message e) ≡ None → served v s ≡ Some me → served v (message_applied s e) ≡ Some me'
    → has_bit v.intents guilds ≡ true → s.outage ≡ false → (message_applied s e).outage ≡ false → (h : Held) → HoldsShown s v me h
    → HoldsShown (message_applied s e) v me' (fold_from v.intents s.id h (dispatches s me (message_applied s e) me' v (edit.Message e)))
keep-message s e v me me' well well' ok is is' asks here here' h has =
    let t : Record = message_applied s e in
    let same_me : Some me' ≡ Some me = sym is' ∙ (message-served s e v ∙ is) in
    let mine : me' ≡ me = cc in
    let ds : List Dispatch = whole_dispatches s me t me' v (edit.Message e) in
    let are : All (IsMessageOf t.id) ds = all-messages t v (message_note s e) e in
    subst (λ (p : Bool). HasShown p t v me' (fold_from v.intents s.id h ds)) (sym (message-flag s e))
    (messages-keep s.private s t v me me' well well' asks (id-kept s (edit.Message e)) (message-standing s e me' ∙ ap (λ (m : Member). standing s m) mine) h ds has
    (dispatches-of s me t me' v (edit.Message e)) (All-weaker (IsMessageOf t.id) (λ d. is_message d ≡ true) (λ d is. is.message) ds are)
    (messages-fit s t v (showing s.private s me s.private t me') ds are)
    (kept s (edit.Message e) v me me' well well' ok is is' asks here here' h has))

-- ---- each dispatch is of the guild
pub told-of : (s : Record) (me : Member) (t : Record) (me' : Member) (v : Viewer) (b : Bool) (ds : List Dispatch) → s.id ≡ t.id → All (IsOf t.id) ds → All (IsOf t.id) (told_of s me t me' v b ds)
told-of s me t me' v true ds at of =
    withheld-each (IsOf t.id) (λ u is. is) (showing s.private s me t.private t me') s t v (λ c. ap (λ id. Some id) at) (λ c. refl) (λ z. refl) ds of
told-of s me t me' v false ds at of = of

pub shown-of : (s : Record) (me : Member) (t : Record) (me' : Member) (v : Viewer) (e : Edit) → s.id ≡ t.id → All (IsOf t.id) (dispatches s me t me' v e)
shown-of s me t me' v (edit.Guild GuildOutage) at = asked-of t.id v false (GuildDelete (record { id = t.id; unavailable = true })) refl
shown-of s me t me' v (edit.Guild GuildBack) at = asked-of t.id v false (GuildCreate (greeting t v me')) (ap (λ id. Some id) (greeting-id (shown_part t me') v me'))
shown-of s me t me' v e at = told-of s me t me' v (withholds s t e) (whole_dispatches s me t me' v e) at (dispatches-of s me t me' v e)

-- ---- whoever is served, of a guild that is available before and after the edit
abbrev Keeps : Record → Edit → Viewer → Held → Type 0
Keeps s e v h = (me me' : Member) → served v s ≡ Some me → served v (applied s e) ≡ Some me' → has_bit v.intents guilds ≡ true
    → HoldsShown s v me h → HoldsShown (applied s e) v me' (fold_from v.intents s.id h (dispatches s me (applied s e) me' v e))

in_view : (s : Record) (v : Viewer) (h : Held) (e : Edit) → IsWell s → IsWell (applied s e) → s.outage ≡ false → (applied s e).outage ≡ false → Keeps s e v h
    → Agrees s v h → Agrees (applied s e) v (fold_from v.intents s.id h (due_of_accepted s e v))
in_view s v h e well well' here here' follows agrees = by_members (served v s) (served v (applied s e)) refl refl
  where
    blind : has_bit v.intents guilds ≡ false → h.view ≡ None
    blind lacks = agrees.view ∙ projection-blind s v h.known lacks

    at_id : (ds : List Dispatch) → Agrees (applied s e) v (fold_from v.intents (applied s e).id h ds) → Agrees (applied s e) v (fold_from v.intents s.id h ds)
    at_id ds = subst (λ g. Agrees (applied s e) v (fold_from v.intents g h ds)) (id-kept s e)

    by_intents : (me me' : Member) → served v s ≡ Some me → served v (applied s e) ≡ Some me' → (b : Bool) → has_bit v.intents guilds ≡ b → Agrees (applied s e) v (fold_from v.intents s.id h (dispatches s me (applied s e) me' v e))
    by_intents me me' is is' true asks =
        let has = follows me me' is is' asks (record { bot = agrees.bot; view = agrees.view ∙ shown-open s v h.known me well.ascending asks is here }) in
        record { bot = has.bot; view = has.view ∙ sym (shown-open (applied s e) v (fold_from v.intents s.id h (dispatches s me (applied s e) me' v e)).known me' well'.ascending asks is' here') }
    by_intents me me' is is' false lacks =
        at_id (dispatches s me (applied s e) me' v e)
        (blind-agrees (applied s e) v (fold_from v.intents (applied s e).id h (dispatches s me (applied s e) me' v e)) lacks
        (blind-fold v.intents (applied s e).id lacks v.user (applied s e).id h (dispatches s me (applied s e) me' v e) (shown-of s me (applied s e) me' v e (sym (id-kept s e)))
        (record { bot = agrees.bot; view = blind lacks })))

    by_members : (o o' : Option Member) → served v s ≡ o → served v (applied s e) ≡ o' → Agrees (applied s e) v (fold_from v.intents s.id h (due_to s o (applied s e) o' v e))
    by_members None None is is' = stays-away s (applied s e) v h is is' agrees
    by_members None (Some me') is is' = at_id (guild_comes (applied s e) v me') (comes (applied s e) v h me' well'.ascending here' agrees.bot blind is')
    by_members (Some me) None is is' = at_id (guild_gone (applied s e).id v false) (goes (applied s e) v h agrees.bot blind is')
    by_members (Some me) (Some me') is is' = by_intents me me' is is' (has_bit v.intents guilds) refl

-- ---- all edits

available : (s : Record) → out_of_service s ≡ None → s.outage ≡ false
available s e = not_refused s.outage Unavailable (first_passes (refused_if s.outage Unavailable) [] (first_passes (refused_if (not s.opened) NotOpen) (refused_if s.outage Unavailable ∷ []) e).1).0

role_member-here : (s : Record) (e : RoleMemberEdit) → (role_member_applied s e).outage ≡ s.outage
role_member-here s (RoleCreate body) = refl
role_member-here s (RoleUpdate body) = refl
role_member-here s (RoleDelete role) = refl
role_member-here s (MemberAdd add) = refl
role_member-here s (MemberRemove user) = refl
role_member-here s (MemberNick nick) = refl
role_member-here s (MemberTimeout timeout) = refl
role_member-here s (MemberRoleAdd held) = refl
role_member-here s (MemberRoleRemove held) = refl

channel-here : (s : Record) (e : ChannelEdit) → (channel_applied s e).outage ≡ s.outage
channel-here s (ChannelCreate create) = refl
channel-here s (ChannelUpdate update) = refl
channel-here s (ChannelDelete channel) = refl
channel-here s (OverwriteSet set) = refl
channel-here s (OverwriteDelete delete) = refl

thread-here : (s : Record) (e : ThreadEdit) → (thread_applied s e).outage ≡ s.outage
thread-here s (thread.ThreadCreate create) = refl
thread-here s (thread.ThreadRename rename) = refl
thread-here s (thread.ThreadArchive id) = refl
thread-here s (thread.ThreadUnarchive id) = refl
thread-here s (thread.ThreadDelete id) = refl
thread-here s (thread.ThreadJoin join) = refl
thread-here s (thread.ThreadLeave leave) = refl

voice_presence-here : (s : Record) (e : VoicePresenceEdit) → (voice_presence_applied s e).outage ≡ s.outage
voice_presence-here s (VoiceSet set) = by_channel set.channel
  where
    by_channel : (o : Option ℕ) → (with_voice s set o).outage ≡ s.outage
    by_channel None = refl
    by_channel (Some channel) = refl
voice_presence-here s (PresenceSet set) = by_shown (status_shown set.status)
  where
    by_shown : (a : Option ShownStatus) → (with_shown_status s set.user a).outage ≡ s.outage
    by_shown None = refl
    by_shown (Some a) = refl

keep-outage : (s : Record) (v : Viewer) (h : Held) → Agrees s v h → Agrees (record s { outage = true }) v (fold_from v.intents s.id h (due_of_accepted s (edit.Guild GuildOutage) v))
keep-outage s v h agrees = by_member (served v s) refl
  where
    by_member : (o : Option Member) → served v s ≡ o → Agrees (record s { outage = true }) v (fold_from v.intents s.id h (due_to s o (record s { outage = true }) o v (edit.Guild GuildOutage)))
    by_member None is = stays-away s (record s { outage = true }) v h is is agrees
    by_member (Some me) is = falls-out (record s { outage = true }) v h me agrees.bot (λ lacks. agrees.view ∙ projection-blind s v h.known lacks) is refl

keep-back : (s : Record) (v : Viewer) (h : Held) → IsWell (record s { outage = false }) → Agrees s v h → Agrees (record s { outage = false }) v (fold_from v.intents s.id h (due_of_accepted s (edit.Guild GuildBack) v))
keep-back s v h after agrees = by_member (served v s) refl
  where
    by_member : (o : Option Member) → served v s ≡ o → Agrees (record s { outage = false }) v (fold_from v.intents s.id h (due_to s o (record s { outage = false }) o v (edit.Guild GuildBack)))
    by_member None is = stays-away s (record s { outage = false }) v h is is agrees
    by_member (Some me) is = comes (record s { outage = false }) v h me after.ascending refl agrees.bot (λ lacks. agrees.view ∙ projection-blind s v h.known lacks) is

keeps-applied : (s : Record) (e : Edit) (v : Viewer) (h : Held) → IsWell s → IsWell (applied s e) → verdict s e ≡ None → Agrees s v h → Agrees (applied s e) v (fold_from v.intents s.id h (due_of_accepted s e v))
keeps-applied s (edit.Guild (GuildOpen opening)) v h well after ok agrees =
    let shut : s.opened ≡ false = not_refused s.opened AlreadyOpen (first_passes (refused_if s.opened AlreadyOpen) (too_long 100 opening.name ∷ too_long 100 opening.owner_name ∷ []) ok).0 in
    let here : s.outage ≡ false = ap (λ (g : Record). g.outage) (well.consistent.empty shut) in
    let e : Edit = edit.Guild (GuildOpen opening) in
    in_view s v h e well after here here (λ me me' is is' asks has. plain s e v me me' well after ok is is' asks here here h has (All-nil (F s e v me me' well after ok is is' asks here here h has))) agrees
keeps-applied s (edit.Guild (GuildRename name)) v h well after ok agrees =
    let here : s.outage ≡ false = available s (first_passes (out_of_service s) (too_long 100 name ∷ []) ok).0 in
    let e : Edit = edit.Guild (GuildRename name) in
    in_view s v h e well after here here
    (λ me me' is is' asks has. plain s e v me me' well after ok is is' asks here here h has
    (asked-all (F s e v me me' well after ok is is' asks here here h has) v false (GuildUpdate (record { id = s.id; name = name; owner = s.owner })) tt)) agrees
keeps-applied s (edit.Guild (GuildOwner user)) v h well after ok agrees =
    let here : s.outage ≡ false = available s (first_passes (out_of_service s) (unknown_member s user ∷ []) ok).0 in
    let e : Edit = edit.Guild (GuildOwner user) in
    in_view s v h e well after here here
    (λ me me' is is' asks has. with_sync s e v me me' well after ok is is' asks here here h has (guild_updated (applied s e) v) refl
    (asked-all (F s e v me me' well after ok is is' asks here here h has) v false (GuildUpdate (record { id = s.id; name = s.name; owner = user })) tt)) agrees
keeps-applied s (edit.Guild GuildOutage) v h well after ok agrees = keep-outage s v h agrees
keeps-applied s (edit.Guild GuildBack) v h well after ok agrees = keep-back s v h after agrees
keeps-applied s (edit.Guild (GuildPrivate private)) v h well after ok agrees =
    let here : s.outage ≡ false = available s ok in
    let e : Edit = edit.Guild (GuildPrivate private) in
    in_view s v h e well after here here (λ me me' is is' asks has. plain s e v me me' well after ok is is' asks here here h has (All-nil (F s e v me me' well after ok is is' asks here here h has))) agrees
keeps-applied s (edit.RoleMember e) v h well after ok agrees =
    let here : s.outage ≡ false = available s (first_passes (out_of_service s) (role_member_verdict s e ∷ []) ok).0 in
    let here' : (role_member_applied s e).outage ≡ false = role_member-here s e ∙ here in
    in_view s v h (edit.RoleMember e) well after here here' (λ me me' is is' asks has. keep-role_member s e v me me' well after ok is is' asks here here' h has) agrees
keeps-applied s (edit.Channel e) v h well after ok agrees =
    let here : s.outage ≡ false = available s (first_passes (out_of_service s) (channel_verdict s e ∷ []) ok).0 in
    let here' : (channel_applied s e).outage ≡ false = channel-here s e ∙ here in
    in_view s v h (edit.Channel e) well after here here' (λ me me' is is' asks has. keep-channel s e v me me' well after ok is is' asks here here' h has) agrees
keeps-applied s (edit.Thread e) v h well after ok agrees =
    let here : s.outage ≡ false = available s (first_passes (out_of_service s) (thread_verdict s e ∷ []) ok).0 in
    let here' : (thread_applied s e).outage ≡ false = thread-here s e ∙ here in
    in_view s v h (edit.Thread e) well after here here' (λ me me' is is' asks has. keep-thread s e v me me' well after ok is is' asks here here' h has) agrees
keeps-applied s (edit.VoicePresence (VoiceSet e)) v h well after ok agrees =
    let here : s.outage ≡ false = available s (first_passes (out_of_service s) (voice_presence_verdict s (VoiceSet e) ∷ []) ok).0 in
    let here' : (voice_presence_applied s (VoiceSet e)).outage ≡ false = voice_presence-here s (VoiceSet e) ∙ here in
    in_view s v h (edit.VoicePresence (VoiceSet e)) well after here here' (λ me me' is is' asks has. keep-voice s e v me me' well after ok is is' asks here here' h has) agrees
keeps-applied s (edit.VoicePresence (PresenceSet set)) v h well after ok agrees =
    let here : s.outage ≡ false = available s (first_passes (out_of_service s) (voice_presence_verdict s (PresenceSet set) ∷ []) ok).0 in
    let e : Edit = edit.VoicePresence (PresenceSet set) in
    let here' : (applied s e).outage ≡ false = voice_presence-here s (PresenceSet set) ∙ here in
    in_view s v h e well after here here'
    (λ me me' is is' asks has. plain s e v me me' well after ok is is' asks here here' h has
    (asked-all (F s e v me me' well after ok is is' asks here here' h has) v false (PresenceUpdate (presence_told (applied s e).id set.user (status_shown set.status))) tt)) agrees
keeps-applied s (edit.Message e) v h well after ok agrees =
    let here : s.outage ≡ false = available s (first_passes (out_of_service s) (message_verdict s e ∷ []) ok).0 in
    let here' : (message_applied s e).outage ≡ false = message-here s e ∙ here in
    in_view s v h (edit.Message e) well after here here' (λ me me' is is' asks has. keep-message s e v me me' well after ok is is' asks here here' h has) agrees

pub edit_keeps : EditKeeps
unfolding due
edit_keeps s e v h well agrees = by_verdict (verdict s e) refl (keeps s e well)
  where
    by_verdict : (o : Option Verdict) → verdict s e ≡ o → IsWell (after_verdict o s e) → Agrees (after_verdict o s e) v (fold_from v.intents s.id h (if is_none o then due_of_accepted s e v else []))
    by_verdict None ok after = keeps-applied s e v h well after ok agrees
    by_verdict (Some x) ok after = agrees

pub greeting_holds : GreetingHolds
greeting_holds s v h me well is here asks bot = greets-shown s v h me well.ascending here asks bot is
