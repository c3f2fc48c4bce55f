-- The edits of voice states and presences: what is refused, and what becomes of the record.
use Rattle.std.specs.Prelude.{Option}
use Rattle.guild_model.specs.declared.verdict.Verdict.{Verdict}
use Rattle.guild_model.specs.Record.{Record}
use Rattle.voice_presence.specs.declared.VoicePresenceEdit.{VoicePresenceEdit}
use Rattle.voice_presence.specs.declared.VoicePresenceEdit.TheVariants.{VoiceSet, PresenceSet}
use Rattle.voice_presence.specs.Voices.{voice_set_verdict, voice_was_set}
use Rattle.voice_presence.specs.Presences.{presence_set_verdict, presence_was_set}

-- why an edit of an open guild is refused, if it is
abbrev pub voice_presence_verdict : Record → VoicePresenceEdit → Option Verdict
voice_presence_verdict g (VoiceSet edit) = voice_set_verdict g edit
voice_presence_verdict g (PresenceSet edit) = presence_set_verdict g edit

-- the record after an edit that is not refused
abbrev pub voice_presence_applied : Record → VoicePresenceEdit → Record
voice_presence_applied g (VoiceSet edit) = voice_was_set g edit
voice_presence_applied g (PresenceSet edit) = presence_was_set g edit
