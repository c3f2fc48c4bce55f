-- What holds of each dispatch of a list holds of each that is told of it where channels are withheld.
use Rattle.std.proofs.Common.{ℕ, Bool, true, false, List, [], ◌∷◌, Option, Some, None, if◌then◌else◌}
use Rattle.std.specs.Prelude.{◌&&◌, All, filter, flat_map}
use Rattle.std.proofs.lemmas.List.Elements.{All-nil, All-cons, All-head, All-tail, All-append, All-filter}
use Rattle.guild_model.specs.declared.channel.Channel.{Channel}
use Rattle.guild_model.specs.declared.voice.Voice.{Voice}
use Rattle.guild_model.specs.Record.{Record, speaks_in}
use Rattle.dispatch_types.specs.declared.presences.VoiceStateUpdate.{VoiceStateUpdate as VoiceUpdate}
use Rattle.dispatch_types.specs.declared.viewer.Viewer.{Viewer}
use Rattle.dispatch_types.specs.declared.dispatch.Dispatch.{Dispatch}
use Rattle.dispatch_types.specs.declared.dispatch.Dispatch.TheVariants as dispatch
use Rattle.dispatch_types.specs.Objects.{channel_object, voice_object}
use Rattle.channel_privacy.proofs.Asked.{if-all, asked-all, each-all}
use Rattle.channel_privacy.specs.Withheld.{Showing, left_voice, told_voice, told_shown, lost, voice_there, gained, is_lost, is_gained, is_sync, is_no_sync, withheld}

module _ (P : Dispatch → Type 0) (left : (u : VoiceUpdate) → P (dispatch.VoiceStateUpdate u) → P (left_voice u)) where
  module _ (x : Showing) where
    voice-told : (u : VoiceUpdate) → P (dispatch.VoiceStateUpdate u) → (c : Option ℕ) → All P (told_voice x u c)
    voice-told u fits None = if-all P (x.in_voice u.voice.user) (dispatch.VoiceStateUpdate u) fits
    voice-told u fits (Some c) = by_test (x.after c)
      where
        by_test : (b : Bool) → All P (if b then dispatch.VoiceStateUpdate u ∷ [] else (if x.in_voice u.voice.user then left_voice u ∷ [] else []))
        by_test true = All-cons P (dispatch.VoiceStateUpdate u) [] fits (All-nil P)
        by_test false = if-all P (x.in_voice u.voice.user) (left_voice u) (left u fits)

    told : (d : Dispatch) → P d → All P (told_shown x d)
    told (dispatch.ChannelCreate o) fits = if-all P (x.after o.id) (dispatch.ChannelCreate o) fits
    told (dispatch.ChannelUpdate o) fits = if-all P (x.before o.id && x.after o.id) (dispatch.ChannelUpdate o) fits
    told (dispatch.ChannelDelete o) fits = if-all P (x.before o.id) (dispatch.ChannelDelete o) fits
    told (dispatch.VoiceStateUpdate u) fits = voice-told u fits u.voice.channel
    told d fits = All-cons P d [] fits (All-nil P)

    all-told : (ds : List Dispatch) → All P ds → All P (flat_map (told_shown x) ds)
    all-told [] fit = All-nil P
    all-told (d ∷ ds) fit = All-append P (told_shown x d) (flat_map (told_shown x) ds) (told d (All-head P d ds fit)) (all-told ds (All-tail P d ds fit))

    -- if it holds of each channel that is lost or gained, and of each voice state there
    pub withheld-each : (s t : Record) (v : Viewer) → ((c : Channel) → P (dispatch.ChannelDelete (channel_object s.id c))) → ((c : Channel) → P (dispatch.ChannelCreate (channel_object t.id c)))
        → ((z : Voice) → P (dispatch.VoiceStateUpdate (record { guild = t.id; voice = voice_object z }))) → (ds : List Dispatch) → All P ds → All P (withheld s t x v ds)
    withheld-each s t v goes comes speaks ds fit =
        All-append P _ _ (all-told (filter is_no_sync ds) (All-filter is_no_sync P ds fit))
        (All-append P _ _ (each-all P (lost s.id v) (λ c. asked-all P v false (dispatch.ChannelDelete (channel_object s.id c)) (goes c)) (filter (λ (c : Channel). is_lost s t x c.id) s.channels))
        (All-append P _ _ (each-all P (gained t v) found (filter (λ (c : Channel). is_gained s t x c.id) t.channels)) (All-filter is_sync P ds fit)))
      where
        found : (c : Channel) → All P (gained t v c)
        found c =
            All-append P _ _ (asked-all P v false (dispatch.ChannelCreate (channel_object t.id c)) (comes c))
            (each-all P (voice_there t v) (λ z. asked-all P v false (dispatch.VoiceStateUpdate (record { guild = t.id; voice = voice_object z })) (speaks z)) (filter (speaks_in c.id) t.voices))
