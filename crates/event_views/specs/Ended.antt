-- A user that is in voice no longer (Gateway Events, Voice State Update; Voice Resource, Voice State Object).
use Rattle.std.specs.Prelude.{ℕ, List, false, None}
use Rattle.guild_model.specs.declared.voice.Voice.{Voice}
use Rattle.dispatch_types.specs.declared.presences.VoiceObject.{VoiceObject}
use Rattle.dispatch_types.specs.declared.viewer.Viewer.{Viewer}
use Rattle.dispatch_types.specs.declared.dispatch.Dispatch.{Dispatch}
use Rattle.dispatch_types.specs.declared.dispatch.Dispatch.TheVariants.{VoiceStateUpdate}
use Rattle.event_views.specs.Asked.{asked}

-- the channel is null, and the flags are those of the state that ended
abbrev pub voice_end : Voice → VoiceObject
voice_end voice = record { user = voice.user; channel = None; self_mute = voice.self_mute; self_deaf = voice.self_deaf }

-- it is told to the viewers of the guild
abbrev pub voice_ends : ℕ → Viewer → Voice → List Dispatch
voice_ends guild v voice = asked v false (VoiceStateUpdate (record { guild = guild; voice = voice_end voice }))
