-- The fields of the edits of voice states and presences.
use Rattle.std.specs.Prelude.{ℕ, List, [], ◌∷◌, Result, Ok, codes}
use Rattle.serde_json.specs.Data.{Data, boolean, string}
use Rattle.json_view.specs.Fields.{and_then}
use Rattle.guild_model.specs.Statuses.{status_name}
use Rattle.voice_presence.specs.declared.VoicePresenceEdit.{VoicePresenceEdit}
use Rattle.voice_presence.specs.declared.VoicePresenceEdit.TheVariants as edit
use Rattle.voice_presence.specs.declared.voice_set.VoiceSet.{VoiceSet}
use Rattle.voice_presence.specs.declared.presence_set.PresenceSet.{PresenceSet}
use Rattle.edit_fields.specs.declared.fault.LineFault.{LineFault}
use Rattle.edit_fields.specs.declared.names.VoicePresenceEditName.{VoicePresenceEditName}
use Rattle.edit_fields.specs.declared.names.VoicePresenceEditName.TheVariants as named
use Rattle.edit_fields.specs.Fields.{id_at, flag_at, status_at, nullable_id_at}
use Rattle.edit_fields.specs.Members.{id_data, nullable}

-- ---- reading

abbrev pub voice_set_from : Data → Result VoiceSet LineFault
voice_set_from d =
    and_then (id_at (codes "user") d) (λ user.
    and_then (nullable_id_at (codes "channel") d) (λ channel.
    and_then (flag_at (codes "mute") d) (λ mute.
    and_then (flag_at (codes "deaf") d) (λ deaf.
    Ok (record { user = user; channel = channel; self_mute = mute; self_deaf = deaf })))))

abbrev pub presence_set_from : Data → Result PresenceSet LineFault
presence_set_from d =
    and_then (id_at (codes "user") d) (λ user.
    and_then (status_at (codes "status") d) (λ status.
    Ok (record { user = user; status = status })))

abbrev pub voice_presence_edit_from : VoicePresenceEditName → Data → Result VoicePresenceEdit LineFault
voice_presence_edit_from named.VoiceSet d = and_then (voice_set_from d) (λ e. Ok (edit.VoiceSet e))
voice_presence_edit_from named.PresenceSet d =
    and_then (presence_set_from d) (λ e. Ok (edit.PresenceSet e))

-- ---- writing

abbrev pub voice_presence_edit_name : VoicePresenceEdit → VoicePresenceEditName
voice_presence_edit_name (edit.VoiceSet e) = named.VoiceSet
voice_presence_edit_name (edit.PresenceSet e) = named.PresenceSet

abbrev pub voice_set_fields : VoiceSet → List (List ℕ × Data)
voice_set_fields e =
    (codes "user", id_data e.user) ∷ (codes "channel", nullable id_data e.channel)
    ∷ (codes "mute", boolean e.self_mute) ∷ (codes "deaf", boolean e.self_deaf) ∷ []

abbrev pub presence_set_fields : PresenceSet → List (List ℕ × Data)
presence_set_fields e =
    (codes "user", id_data e.user) ∷ (codes "status", string (status_name e.status)) ∷ []

abbrev pub voice_presence_edit_fields : VoicePresenceEdit → List (List ℕ × Data)
voice_presence_edit_fields (edit.VoiceSet e) = voice_set_fields e
voice_presence_edit_fields (edit.PresenceSet e) = presence_set_fields e
