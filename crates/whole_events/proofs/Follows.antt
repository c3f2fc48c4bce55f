-- A client that holds all of a guild and is told what an edit owes holds all of it as it then is.
use Rattle.std.proofs.Common.{◌≡◌, ℕ, true, false, List, [], ◌∷◌, ◌++◌, Option, Some, None, if◌then◌else◌, refl, sym, ap, subst, ◌∙◌}
use Rattle.std.specs.Prelude.{◌&&◌, not}
use Rattle.std.specs.Option.{is_none}
use Rattle.collections.specs.ById.{find_id}
use Rattle.perm_bits.specs.Bits.{has_bit}
use Rattle.intent_set.specs.Intents.{guilds}
use Rattle.guild_model.specs.declared.member.Member.{Member}
use Rattle.guild_model.specs.declared.verdict.Verdict.{Verdict}
use Rattle.guild_model.specs.declared.verdict.Verdict.TheVariants.{NotOpen, AlreadyOpen, Unavailable}
use Rattle.guild_model.specs.Record.{Record, member_id}
use Rattle.guild_model.specs.Tests.{refused_if, too_long}
use Rattle.guild_model.specs.Ascending.{IsWell}
use Rattle.guild_model.proofs.Tests.{first_passes, not_refused, passed}
use Rattle.dispatch_types.specs.declared.viewer.Viewer.{Viewer}
use Rattle.dispatch_types.specs.declared.dispatch.Dispatch.{Dispatch}
use Rattle.dispatch_types.specs.declared.dispatch.Dispatch.TheVariants.{GuildUpdate}
use Rattle.dispatch_types.specs.Serves.{in_shard, served}
use Rattle.dispatch_types.specs.Projection.{open_view}
use Rattle.dispatch_types.specs.Fold.{Held, fold_from}
use Rattle.dispatch_types.proofs.Folds.{folded-here}
use Rattle.event_views.specs.Synced.{synced}
use Rattle.event_views.specs.Has.{Has}
use Rattle.event_views.proofs.Steps.{same, whole, by_guilds, by_asked_then}
use Rattle.event_views.proofs.Rights.{follows-rights}
use Rattle.guild_model.specs.declared.presence.ShownStatus.{ShownStatus}
use Rattle.guild_model.specs.Statuses.{status_shown}
use Rattle.role_member_edit.specs.RoleMember.{role_member_verdict, role_member_applied}
use Rattle.role_member_events.proofs.Follows.{follows-role_member}
use Rattle.channel_edit.specs.declared.ChannelEdit.{ChannelEdit}
use Rattle.channel_edit.specs.declared.ChannelEdit.TheVariants.{ChannelCreate, ChannelUpdate, ChannelDelete, OverwriteSet, OverwriteDelete}
use Rattle.channel_edit.specs.ChannelEdits.{channel_verdict, channel_applied}
use Rattle.channel_events.specs.Dispatches.{channel_dispatches}
use Rattle.channel_events.proofs.Follows.{follows-channel}
use Rattle.thread_edit.specs.declared.ThreadEdit.{ThreadEdit}
use Rattle.thread_edit.specs.declared.ThreadEdit.TheVariants.{ThreadCreate, ThreadRename, ThreadArchive, ThreadUnarchive, ThreadDelete, ThreadJoin, ThreadLeave}
use Rattle.thread_edit.specs.ThreadEdits.{thread_verdict, thread_applied}
use Rattle.thread_events.specs.Dispatches.{thread_dispatches}
use Rattle.thread_events.proofs.Follows.{follows-thread}
use Rattle.voice_presence.specs.declared.VoicePresenceEdit.{VoicePresenceEdit}
use Rattle.voice_presence.specs.declared.VoicePresenceEdit.TheVariants.{VoiceSet, PresenceSet}
use Rattle.voice_presence.specs.Voices.{with_voice}
use Rattle.voice_presence.specs.Presences.{with_shown_status}
use Rattle.voice_presence.specs.VoicePresence.{voice_presence_applied}
use Rattle.voice_presence_events.specs.Dispatches.{voice_presence_dispatches}
use Rattle.voice_presence_events.proofs.Follows.{follows-voice_presence}
use Rattle.message_edit.specs.MessageEdits.{message_applied}
use Rattle.message_events.specs.Notes.{message_note}
use Rattle.message_events.specs.Dispatches.{message_dispatches}
use Rattle.message_events.proofs.Follows.{message-served, follows-message}
use Rattle.edit_apply.specs.declared.guild.GuildEdit.TheVariants.{GuildOpen, GuildRename, GuildOwner, GuildOutage, GuildBack, GuildPrivate}
use Rattle.edit_apply.specs.declared.Edit.{Edit}
use Rattle.edit_apply.specs.declared.Edit.TheVariants as edit
use Rattle.edit_apply.specs.Guilds.{out_of_service}
use Rattle.edit_apply.specs.Edits.{verdict, applied, after_verdict}
use Rattle.edit_apply.proofs.Well.{keeps}
use Rattle.whole_events.specs.Dispatches.{guild_updated, whole_dispatches}
use Rattle.whole_events.specs.Law.{EditFollows}
use Rattle.message_gate.proofs.ByMember.{served-member}

-- ---- what the tests of an accepted edit say

-- in a guild that is open and available
in_service : (s : Record) → out_of_service s ≡ None → s.opened ≡ true
in_service s e = passed s.opened NotOpen (first_passes (refused_if (not s.opened) NotOpen) (refused_if s.outage Unavailable ∷ []) e).0

-- what is to be shown of each edit
abbrev Follows : Record → Viewer → Held → Edit → Type 0
Follows s v h e = (me me' : Member) → served v s ≡ Some me → served v (applied s e) ≡ Some me' → has_bit v.intents guilds ≡ true
    → Has s v me h → Has (applied s e) v me' (fold_from v.intents s.id h (whole_dispatches s me (applied s e) me' v e))

-- ---- the edits of the guild itself

follows-renamed : (s : Record) (v : Viewer) (h : Held) (name : List ℕ) → Follows s v h (edit.Guild (GuildRename name))
follows-renamed s v h name me me' is is' asks has =
    let mine : me ≡ me' = cc in
    let update : Dispatch = GuildUpdate (record { id = s.id; name = name; owner = s.owner }) in
    by_guilds (record s { name = name }) v s.id h me' false update asks refl
    (whole s (record s { name = name }) v h me me' update (λ w. record w { name = name; owner = s.owner }) same refl (folded-here v.intents s.id h update refl refl)
    (ap (λ (m : Member). open_view (record s { name = name }) v.intents h.known m) mine) has)

follows-owner : (s : Record) (v : Viewer) (h : Held) (user : ℕ) → IsWell s → Follows s v h (edit.Guild (GuildOwner user))
follows-owner s v h user well me me' is is' asks has =
    let t : Record = record s { owner = user } in
    let update : Dispatch = GuildUpdate (record { id = s.id; name = s.name; owner = user }) in
    let mine : me ≡ me' = cc in
    subst (λ (m : Member). Has (record s { owner = user }) v m (fold_from v.intents s.id h (guild_updated (record s { owner = user }) v ++ synced s me (record s { owner = user }) m v))) mine
    (by_asked_then t v s.id h me false update (synced s me t me v)
    (λ e. follows-rights s t v h me me well (record { id = refl; channels = λ c. refl; threads = refl }) refl asks update (λ w. record w { name = s.name; owner = user }) same (folded-here v.intents s.id h update refl refl) refl has)
    (λ e. absurd (cc)))

-- ---- all edits

voice_presence-served : (s : Record) (e : VoicePresenceEdit) (v : Viewer) → served v (voice_presence_applied s e) ≡ served v s
voice_presence-served s (VoiceSet set) v = by_channel set.channel
  where
    by_channel : (o : Option ℕ) → served v (with_voice s set o) ≡ served v s
    by_channel None = refl
    by_channel (Some channel) = refl
voice_presence-served s (PresenceSet set) v = by_shown (status_shown set.status)
  where
    by_shown : (a : Option ShownStatus) → served v (with_shown_status s set.user a) ≡ served v s
    by_shown None = refl
    by_shown (Some a) = refl

pub channel-served : (s : Record) (e : ChannelEdit) (v : Viewer) → served v (channel_applied s e) ≡ served v s
channel-served s (ChannelCreate create) v = refl
channel-served s (ChannelUpdate update) v = refl
channel-served s (ChannelDelete channel) v = refl
channel-served s (OverwriteSet set) v = refl
channel-served s (OverwriteDelete delete) v = refl

thread-served : (s : Record) (e : ThreadEdit) (v : Viewer) → served v (thread_applied s e) ≡ served v s
thread-served s (ThreadCreate create) v = refl
thread-served s (ThreadRename rename) v = refl
thread-served s (ThreadArchive thread) v = refl
thread-served s (ThreadUnarchive thread) v = refl
thread-served s (ThreadDelete thread) v = refl
thread-served s (ThreadJoin join) v = refl
thread-served s (ThreadLeave leave) v = refl

follows-accepted : (s : Record) (e : Edit) (v : Viewer) (h : Held) → IsWell s → IsWell (applied s e) → verdict s e ≡ None → s.outage ≡ false → (applied s e).outage ≡ false → Follows s v h e
follows-accepted s (edit.Guild (GuildOpen opening)) v h well after ok here here' me me' is is' asks has = absurd (cc (shut-out, is))
  where
    shut : s.opened ≡ false
    shut = not_refused s.opened AlreadyOpen (first_passes (refused_if s.opened AlreadyOpen) (too_long 100 opening.name ∷ too_long 100 opening.owner_name ∷ []) ok).0

    shut-out : served v s ≡ None
    shut-out = ap (λ b. if b && in_shard v.shard s.id then find_id member_id v.user s.members else None) shut
follows-accepted s (edit.Guild (GuildRename name)) v h well after ok here here' me me' is is' asks has = follows-renamed s v h name me me' is is' asks has
follows-accepted s (edit.Guild (GuildOwner user)) v h well after ok here here' me me' is is' asks has = follows-owner s v h user well me me' is is' asks has
follows-accepted s (edit.Guild GuildOutage) v h well after ok here here' me me' is is' asks has = absurd (cc)
follows-accepted s (edit.Guild GuildBack) v h well after ok here here' me me' is is' asks has =
    let tests = first_passes (refused_if (not s.opened) NotOpen) (refused_if (not s.outage) AlreadyOpen ∷ []) ok in
    let out : s.outage ≡ true = passed s.outage AlreadyOpen (first_passes (refused_if (not s.outage) AlreadyOpen) [] tests.1).0 in
    absurd (cc (out, here))
follows-accepted s (edit.Guild (GuildPrivate private)) v h well after ok here here' me me' is is' asks has =
    let mine : me ≡ me' = cc in
    subst (λ (m : Member). Has (record s { private = private }) v m h) mine (record { bot = has.bot; view = has.view })
follows-accepted s (edit.RoleMember e) v h well after ok here here' me me' is is' asks has =
    let tests = first_passes (out_of_service s) (role_member_verdict s e ∷ []) ok in
    follows-role_member s v h me me' e well after (in_service s tests.0) (first_passes (role_member_verdict s e) [] tests.1).0 (served-member v s me is) (served-member v (role_member_applied s e) me' is') asks has
follows-accepted s (edit.Channel e) v h well after ok here here' me me' is is' asks has =
    let tests = first_passes (out_of_service s) (channel_verdict s e ∷ []) ok in
    let same_me : Some me ≡ Some me' = sym is ∙ (sym (channel-served s e v) ∙ is') in
    let mine : me ≡ me' = cc in
    subst (λ (m : Member). Has (channel_applied s e) v m (fold_from v.intents s.id h (channel_dispatches s me (channel_applied s e) m v e))) mine
    (follows-channel s v h me e well after (in_service s tests.0) (first_passes (channel_verdict s e) [] tests.1).0 (served-member v s me is) asks has)
follows-accepted s (edit.Thread e) v h well after ok here here' me me' is is' asks has =
    let tests = first_passes (out_of_service s) (thread_verdict s e ∷ []) ok in
    let same_me : Some me ≡ Some me' = sym is ∙ (sym (thread-served s e v) ∙ is') in
    let mine : me ≡ me' = cc in
    subst (λ (m : Member). Has (thread_applied s e) v m (fold_from v.intents s.id h (thread_dispatches s me (thread_applied s e) m v e))) mine
    (follows-thread s v h me e well after (in_service s tests.0) (first_passes (thread_verdict s e) [] tests.1).0 (served-member v s me is) asks has)
follows-accepted s (edit.VoicePresence e) v h well after ok here here' me me' is is' asks has =
    let same_me : Some me ≡ Some me' = sym is ∙ (sym (voice_presence-served s e v) ∙ is') in
    let mine : me ≡ me' = cc in
    subst (λ (m : Member). Has (voice_presence_applied s e) v m (fold_from v.intents s.id h (voice_presence_dispatches (voice_presence_applied s e) v e))) mine
    (follows-voice_presence s v h me e has)
follows-accepted s (edit.Message e) v h well after ok here here' me me' is is' asks has =
    let same_me : Some me ≡ Some me' = sym is ∙ (sym (message-served s e v) ∙ is') in
    let mine : me ≡ me' = cc in
    subst (λ (m : Member). Has (message_applied s e) v m (fold_from v.intents s.id h (message_dispatches (message_applied s e) v (message_note s e) e))) mine
    (follows-message s v h me e has)

pub edit_follows : EditFollows
edit_follows s e v me me' h between asks has = by_verdict (verdict s e) refl between.accepted (keeps s e between.well)
  where
    by_verdict : (o : Option Verdict) → verdict s e ≡ o → is_none o ≡ true → IsWell (after_verdict o s e) → Has (applied s e) v me' (fold_from v.intents s.id h (whole_dispatches s me (applied s e) me' v e))
    by_verdict None ok accepted after = follows-accepted s e v h between.well after ok between.here between.here' me me' between.is between.is' asks has
    by_verdict (Some x) ok accepted after = absurd (cc)
