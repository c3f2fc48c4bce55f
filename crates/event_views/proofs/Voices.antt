-- A voice state that ends, and what a client then holds.
use Rattle.std.proofs.Common.{◌≡◌, Bool, true, false, List, [], None, if◌then◌else◌, refl, ap}
use Rattle.collections.specs.ById.{without_id}
use Rattle.perm_bits.specs.Bits.{has_bit}
use Rattle.intent_set.specs.Intents.{guild_voice_states}
use Rattle.guild_model.specs.declared.member.Member.{Member}
use Rattle.guild_model.specs.declared.voice.Voice.{Voice}
use Rattle.guild_model.specs.Record.{Record, voice_id}
use Rattle.dispatch_types.specs.declared.viewer.Viewer.{Viewer}
use Rattle.dispatch_types.specs.declared.view.OpenView.{OpenView}
use Rattle.dispatch_types.specs.declared.dispatch.Dispatch.{Dispatch}
use Rattle.dispatch_types.specs.declared.dispatch.Dispatch.TheVariants.{VoiceStateUpdate}
use Rattle.dispatch_types.specs.Projection.{open_view}
use Rattle.dispatch_types.specs.Fold.{Held, set_voice, folded, fold_from}
use Rattle.dispatch_types.proofs.Folds.{folded-here}
use Rattle.event_views.specs.Asked.{asked}
use Rattle.event_views.specs.Has.{Has}
use Rattle.event_views.specs.Ended.{voice_end}
use Rattle.event_views.proofs.Steps.{same, whole, untold, by_asked}
use Rattle.event_views.proofs.Lists.{listed-same}

-- the dispatch of a voice state that ended
abbrev pub ended : Record → Voice → Dispatch
ended s gone = VoiceStateUpdate (record { guild = s.id; voice = voice_end gone })

pub follows-voice_gone : (s : Record) (v : Viewer) (h : Held) (me : Member) (gone : Voice) (own : Bool)
    → Has s v me h → Has (record s { voices = without_id voice_id gone.user s.voices }) v me (fold_from v.intents s.id h (asked v own (ended s gone)))
follows-voice_gone s v h me gone own has = by_asked after v s.id h me own (ended s gone) tells keeps_silent
  where
    after : Record
    after = record s { voices = without_id voice_id gone.user s.voices }

    with_voices : List Voice → OpenView
    with_voices voices = record (open_view s v.intents h.known me) { voices = voices }

    left : (b : Bool) → without_id voice_id gone.user (if b then s.voices else []) ≡ (if b then after.voices else [])
    left true = refl
    left false = refl

    tells : has_bit v.intents guild_voice_states ≡ true → Has after v me (folded v.intents s.id h (ended s gone))
    tells e =
        whole s after v h me me (ended s gone) (set_voice gone.user None) same refl
        (folded-here v.intents s.id h (ended s gone) refl refl) (ap with_voices (left (has_bit v.intents guild_voice_states))) has

    keeps_silent : has_bit v.intents guild_voice_states ≡ false → Has after v me h
    keeps_silent blind = untold s after v h me me (ap with_voices (listed-same v.intents guild_voice_states _ _ (λ e. absurd (cc)))) has
