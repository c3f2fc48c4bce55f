-- A client that is told of voice states and presences holds them.
use Rattle.std.proofs.Common.{◌≡◌, ℕ, true, false, List, [], Option, Some, None, if◌then◌else◌, refl, sym, ap, subst, ◌∙◌}
use Rattle.std.specs.Prelude.{All}
use Rattle.collections.specs.ById.{put_id, without_id}
use Rattle.perm_bits.specs.Bits.{has_bit}
use Rattle.intent_set.specs.Intents.{guild_voice_states, guild_presences}
use Rattle.guild_model.specs.declared.member.Member.{Member}
use Rattle.guild_model.specs.declared.voice.Voice.{Voice}
use Rattle.guild_model.specs.declared.presence.Presence.{Presence}
use Rattle.guild_model.specs.declared.presence.ShownStatus.{ShownStatus}
use Rattle.guild_model.specs.Record.{Record, voice_id, presence_id}
use Rattle.guild_model.specs.Statuses.{status_shown}
use Rattle.dispatch_types.specs.declared.viewer.Viewer.{Viewer}
use Rattle.dispatch_types.specs.declared.view.OpenView.{OpenView}
use Rattle.dispatch_types.specs.declared.dispatch.Dispatch.{Dispatch}
use Rattle.dispatch_types.specs.declared.dispatch.Dispatch.TheVariants.{VoiceStateUpdate, PresenceUpdate}
use Rattle.dispatch_types.specs.Projection.{listed, open_view}
use Rattle.dispatch_types.specs.Fold.{Held, set_voice, set_presence, folded, fold_from}
use Rattle.voice_presence.specs.declared.VoicePresenceEdit.{VoicePresenceEdit}
use Rattle.voice_presence.specs.declared.VoicePresenceEdit.TheVariants as edit
use Rattle.voice_presence.specs.declared.voice_set.VoiceSet.{VoiceSet}
use Rattle.voice_presence.specs.Voices.{new_voice, with_voice, voice_was_set}
use Rattle.voice_presence.specs.Presences.{with_shown_status}
use Rattle.voice_presence.specs.VoicePresence.{voice_presence_applied}
use Rattle.dispatch_types.proofs.Folds.{folded-here}
use Rattle.event_views.specs.Asked.{asked}
use Rattle.event_views.specs.Has.{Has}
use Rattle.event_views.proofs.Steps.{same, IsOf, asked-of, whole, untold, by_asked}
use Rattle.event_views.proofs.Lists.{listed-same}
use Rattle.voice_presence_events.specs.Dispatches.{voice_told, presence_told, voice_update, voice_presence_dispatches}

-- a list that an intent asks for is held whole
listed-whole : {T : Type 0} (intents bit : ℕ) (xs : List T) → has_bit intents bit ≡ true → listed intents bit xs ≡ xs
listed-whole intents bit xs asks = ap (λ b. if b then xs else []) asks

pub follows-voice : (s : Record) (v : Viewer) (h : Held) (me : Member) (set : VoiceSet)
    → Has s v me h → Has (voice_was_set s set) v me (fold_from v.intents s.id h (voice_update s.id v set))
follows-voice s v h me set has = by_channel set.channel
  where
    with-voices : List Voice → OpenView
    with-voices vs = record (open_view s v.intents h.known me) { voices = vs }

    at : Option ℕ → VoiceSet
    at channel = record set { channel = channel }

    d : Option ℕ → Dispatch
    d channel = VoiceStateUpdate (record { guild = s.id; voice = voice_told (at channel) })

    tells : (channel : Option ℕ) → has_bit v.intents guild_voice_states ≡ true → Has (with_voice s set channel) v me (folded v.intents s.id h (d channel))
    tells None asks =
        whole s (with_voice s set None) v h me me (d None) (set_voice set.user None) same refl
        (folded-here v.intents s.id h (d None) refl refl)
        (ap with-voices (ap (without_id voice_id set.user) (listed-whole v.intents guild_voice_states s.voices asks) ∙ sym (listed-whole v.intents guild_voice_states (without_id voice_id set.user s.voices) asks))) has
    tells (Some c) asks =
        whole s (with_voice s set (Some c)) v h me me (d (Some c)) (set_voice set.user (Some (new_voice set c))) same refl
        (folded-here v.intents s.id h (d (Some c)) refl refl)
        (ap with-voices (ap (put_id voice_id (new_voice set c)) (listed-whole v.intents guild_voice_states s.voices asks) ∙ sym (listed-whole v.intents guild_voice_states (put_id voice_id (new_voice set c) s.voices) asks))) has

    keeps_silent : (channel : Option ℕ) → has_bit v.intents guild_voice_states ≡ false → Has (with_voice s set channel) v me h
    keeps_silent None blind = untold s (with_voice s set None) v h me me (ap with-voices (listed-same v.intents guild_voice_states s.voices (without_id voice_id set.user s.voices) (λ e. absurd (cc)))) has
    keeps_silent (Some c) blind =
        untold s (with_voice s set (Some c)) v h me me (ap with-voices (listed-same v.intents guild_voice_states s.voices (put_id voice_id (new_voice set c) s.voices) (λ e. absurd (cc)))) has

    by_channel : (channel : Option ℕ) → Has (with_voice s set channel) v me (fold_from v.intents s.id h (asked v false (d channel)))
    by_channel channel = by_asked (with_voice s set channel) v s.id h me false (d channel) (tells channel) (keeps_silent channel)

pub follows-presence : (s : Record) (v : Viewer) (h : Held) (me : Member) (user : ℕ) (shown : Option ShownStatus)
    → Has s v me h → Has (with_shown_status s user shown) v me (fold_from v.intents s.id h (asked v false (PresenceUpdate (presence_told s.id user shown))))
follows-presence s v h me user shown has =
    by_asked (with_shown_status s user shown) v s.id h me false (PresenceUpdate (presence_told s.id user shown)) (tells shown) (keeps_silent shown)
  where
    with-presences : List Presence → OpenView
    with-presences ps = record (open_view s v.intents h.known me) { presences = ps }

    tells : (shown : Option ShownStatus) → has_bit v.intents guild_presences ≡ true → Has (with_shown_status s user shown) v me (folded v.intents s.id h (PresenceUpdate (presence_told s.id user shown)))
    tells None asks =
        whole s (with_shown_status s user None) v h me me (PresenceUpdate (presence_told s.id user None)) (set_presence user None) same refl
        (folded-here v.intents s.id h (PresenceUpdate (presence_told s.id user None)) refl refl)
        (ap with-presences (ap (without_id presence_id user) (listed-whole v.intents guild_presences s.presences asks) ∙ sym (listed-whole v.intents guild_presences (without_id presence_id user s.presences) asks))) has
    tells (Some a) asks =
        let p : Presence = record { user = user; status = a } in
        whole s (with_shown_status s user (Some a)) v h me me (PresenceUpdate (presence_told s.id user (Some a))) (set_presence user (Some p)) same refl
        (folded-here v.intents s.id h (PresenceUpdate (presence_told s.id user (Some a))) refl refl)
        (ap with-presences (ap (put_id presence_id p) (listed-whole v.intents guild_presences s.presences asks) ∙ sym (listed-whole v.intents guild_presences (put_id presence_id p s.presences) asks))) has

    keeps_silent : (shown : Option ShownStatus) → has_bit v.intents guild_presences ≡ false → Has (with_shown_status s user shown) v me h
    keeps_silent None blind = untold s (with_shown_status s user None) v h me me (ap with-presences (listed-same v.intents guild_presences s.presences (without_id presence_id user s.presences) (λ e. absurd (cc)))) has
    keeps_silent (Some a) blind =
        let p : Presence = record { user = user; status = a } in
        untold s (with_shown_status s user (Some a)) v h me me (ap with-presences (listed-same v.intents guild_presences s.presences (put_id presence_id p s.presences) (λ e. absurd (cc)))) has

pub follows-voice_presence : (s : Record) (v : Viewer) (h : Held) (me : Member) (e : VoicePresenceEdit)
    → Has s v me h → Has (voice_presence_applied s e) v me (fold_from v.intents s.id h (voice_presence_dispatches (voice_presence_applied s e) v e))
follows-voice_presence s v h me (edit.VoiceSet set) has =
    subst (λ (g : ℕ). Has (voice_was_set s set) v me (fold_from v.intents s.id h (voice_update g v set))) (sym (same_guild set.channel)) (follows-voice s v h me set has)
  where
    same_guild : (channel : Option ℕ) → (with_voice s set channel).id ≡ s.id
    same_guild None = refl
    same_guild (Some channel) = refl
follows-voice_presence s v h me (edit.PresenceSet set) has = by_shown (status_shown set.status)
  where
    by_shown : (a : Option ShownStatus) → Has (with_shown_status s set.user a) v me (fold_from v.intents s.id h (asked v false (PresenceUpdate (presence_told (with_shown_status s set.user a).id set.user a))))
    by_shown None = follows-presence s v h me set.user None has
    by_shown (Some a) = follows-presence s v h me set.user (Some a) has

pub dispatches-of : (after : Record) (v : Viewer) (e : VoicePresenceEdit) → All (IsOf after.id) (voice_presence_dispatches after v e)
dispatches-of after v (edit.VoiceSet set) = asked-of after.id v false (VoiceStateUpdate (record { guild = after.id; voice = voice_told set })) refl
dispatches-of after v (edit.PresenceSet set) = asked-of after.id v false (PresenceUpdate (presence_told after.id set.user (status_shown set.status))) refl
