-- An edit of voice states or presences leaves a record well.
use Rattle.std.proofs.Common.{◌≡◌, ℕ, true, Option, Some, None, refl}
use Rattle.guild_model.specs.declared.presence.ShownStatus.{ShownStatus}
use Rattle.guild_model.specs.Record.{Record}
use Rattle.guild_model.specs.Consistent.{IsConsistent}
use Rattle.guild_model.specs.Ascending.{IsWell}
use Rattle.guild_model.specs.Statuses.{status_shown}
use Rattle.guild_model.specs.Tests.{unknown_member}
use Rattle.voice_presence.specs.declared.VoicePresenceEdit.{VoicePresenceEdit}
use Rattle.voice_presence.specs.declared.VoicePresenceEdit.TheVariants.{VoiceSet, PresenceSet}
use Rattle.voice_presence.specs.declared.voice_set.VoiceSet as voice_set
use Rattle.voice_presence.specs.Voices.{voice_set_verdict, with_voice}
use Rattle.voice_presence.specs.Presences.{with_shown_status}
use Rattle.voice_presence.specs.VoicePresence.{voice_presence_verdict, voice_presence_applied}
use Rattle.voice_presence.proofs.Kept.{voice_came, voice_gone, presence_came, presence_gone}
use Rattle.voice_presence.proofs.Ascends

voice_kept : (g : Record) (edit : voice_set.VoiceSet) (channel : Option ℕ) → edit.channel ≡ channel → g.opened ≡ true → IsConsistent g → voice_set_verdict g edit ≡ None
    → IsConsistent (with_voice g edit channel)
voice_kept g edit None is o h e = voice_gone g o h edit.user
voice_kept g edit (Some channel) is o h e = voice_came g o h edit channel is e

presence_kept : (g : Record) (user : ℕ) (shown : Option ShownStatus) → g.opened ≡ true → IsConsistent g → unknown_member g user ≡ None → IsConsistent (with_shown_status g user shown)
presence_kept g user None o h e = presence_gone g o h user
presence_kept g user (Some shown) o h e = presence_came g o h user shown e

pub well : (g : Record) (edit : VoicePresenceEdit) → g.opened ≡ true → IsWell g → voice_presence_verdict g edit ≡ None → IsWell (voice_presence_applied g edit)
well g (VoiceSet edit) o w e =
    record { ascending = Ascends.voice_set g w.ascending edit edit.channel; consistent = voice_kept g edit edit.channel refl o w.consistent e }
well g (PresenceSet edit) o w e =
    record {
      ascending = Ascends.presence_set g w.ascending edit.user (status_shown edit.status);
      consistent = presence_kept g edit.user (status_shown edit.status) o w.consistent e;
    }
