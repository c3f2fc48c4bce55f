-- Gateway Events, Voice State Update.
use Rattle.std.specs.Prelude.{codes, Some, Result, Ok}
use Rattle.serde_json.specs.Data.{Data}
use Rattle.dispatch_types.specs.declared.presences.VoiceStateUpdate.{VoiceStateUpdate}
use Rattle.json_view.specs.Fields.{and_then}
use Rattle.object_json.specs.declared.fault.ReadFault.{ReadFault}
use Rattle.object_json.specs.Voice.{voice_data, voice_from, VoiceFits}
use Rattle.object_json.specs.Reading.{id_at}
use Rattle.object_json.specs.Fits.{IsId}

-- the voice state, and with it its guild
abbrev pub voice_state_update_data : VoiceStateUpdate → Data
voice_state_update_data u = voice_data (Some u.guild) u.voice

abbrev pub voice_state_update_from : Data → Result VoiceStateUpdate ReadFault
voice_state_update_from d =
    and_then (id_at (codes "guild_id") d) (λ guild.
    and_then (voice_from d) (λ voice.
    Ok (record { guild = guild; voice = voice })))

abbrev pub VoiceStateUpdateFits : VoiceStateUpdate → Type 0
VoiceStateUpdateFits u = IsId u.guild × VoiceFits u.voice
