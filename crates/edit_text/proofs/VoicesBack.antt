-- The line of an edit of voice states or presences reads back, nests little and has no float.
use Rattle.std.proofs.Common.{ℕ, Bool, Option, Some, None, refl, arith}
use Rattle.serde_json.proofs.OnLiterals.{serde_json_on_literals}
use Rattle.snowflake_id.proofs.Texts.{id_of_decimal}
use Rattle.guild_model.proofs.Statuses.{status_back}
use Rattle.edit_apply.specs.declared.Edit.TheVariants as edit
use Rattle.voice_presence.specs.declared.VoicePresenceEdit.{VoicePresenceEdit}
use Rattle.voice_presence.specs.declared.VoicePresenceEdit.TheVariants.{VoiceSet, PresenceSet}
use Rattle.edit_fields.specs.Fits.{IdFits, NullableIdFits, VoicePresenceEditFits}
use Rattle.edit_text.proofs.ReadsBack.{Back, PlainEdit}

voice_set_back : (guild user : ℕ) (channel : Option ℕ) (mute deaf : Bool) → IdFits guild → IdFits user → NullableIdFits channel
    → Back guild (edit.VoicePresence (VoiceSet (record { user = user; channel = channel; self_mute = mute; self_deaf = deaf })))
unfolding serde_json_on_literals
voice_set_back guild user None mute deaf h k f = (refl, rw (id_of_decimal guild h) refl, refl, rw (id_of_decimal user k) refl)
voice_set_back guild user (Some channel) mute deaf h k f =
    (refl, rw (id_of_decimal guild h) refl, refl, rw (id_of_decimal user k, id_of_decimal channel f) refl)

pub voice_presence_back : (guild : ℕ) (e : VoicePresenceEdit) → IdFits guild → VoicePresenceEditFits e → Back guild (edit.VoicePresence e)
unfolding serde_json_on_literals
voice_presence_back guild (VoiceSet e) h k = voice_set_back guild e.user e.channel e.self_mute e.self_deaf h k.0 k.1
voice_presence_back guild (PresenceSet e) h k =
    (refl, rw (id_of_decimal guild h) refl, refl, rw (id_of_decimal e.user k, status_back e.status) refl)

voice_set_plain : (guild user : ℕ) (channel : Option ℕ) (mute deaf : Bool)
    → PlainEdit guild (edit.VoicePresence (VoiceSet (record { user = user; channel = channel; self_mute = mute; self_deaf = deaf })))
unfolding serde_json_on_literals
voice_set_plain guild user None mute deaf = (omega arith, refl)
voice_set_plain guild user (Some channel) mute deaf = (omega arith, refl)

pub voice_presence_plain : (guild : ℕ) (e : VoicePresenceEdit) → PlainEdit guild (edit.VoicePresence e)
unfolding serde_json_on_literals
voice_presence_plain guild (VoiceSet e) = voice_set_plain guild e.user e.channel e.self_mute e.self_deaf
voice_presence_plain guild (PresenceSet e) = (omega arith, refl)
