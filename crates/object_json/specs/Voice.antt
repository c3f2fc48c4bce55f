-- Voice Resource, Voice State Object.
use Rattle.std.specs.Prelude.{ℕ, codes, Option, option_map, Result, Ok, IfSome}
use Rattle.serde_json.specs.Data.{Data, boolean, object, member, no_members}
use Rattle.dispatch_types.specs.declared.presences.VoiceObject.{VoiceObject}
use Rattle.object_json.specs.Kinds.{digits, or_null, member_if}
use Rattle.json_view.specs.Fields.{and_then}
use Rattle.object_json.specs.declared.fault.ReadFault.{ReadFault}
use Rattle.object_json.specs.Reading.{id_at, id_from, flag_at, nullable_at}
use Rattle.object_json.specs.Fits.{IsId}

-- the guild is named where the voice state is a dispatch of its own
abbrev pub voice_data : Option ℕ → VoiceObject → Data
voice_data guild v =
    object (member (codes "channel_id") (or_null digits v.channel)
    (member_if (codes "guild_id") (option_map digits guild)
    (member (codes "self_deaf") (boolean v.self_deaf)
    (member (codes "self_mute") (boolean v.self_mute)
    (member (codes "user_id") (digits v.user)
    no_members)))))

abbrev pub voice_from : Data → Result VoiceObject ReadFault
voice_from d =
    and_then (nullable_at id_from (codes "channel_id") d) (λ channel.
    and_then (flag_at (codes "self_deaf") d) (λ deaf.
    and_then (flag_at (codes "self_mute") d) (λ mute.
    and_then (id_at (codes "user_id") d) (λ user.
    Ok (record { user = user; channel = channel; self_mute = mute; self_deaf = deaf })))))

abbrev pub VoiceFits : VoiceObject → Type 0
VoiceFits v = IfSome v.channel IsId × IsId v.user
