-- The lists of a record still ascend after each edit of voice states and presences.
use Rattle.std.proofs.Common.{ℕ, List, Option, Some, None}
use Rattle.collections.specs.ById.{IsById}
use Rattle.collections.proofs.Ids.{IsById-put}
use Rattle.collections.proofs.Finds.{IsById-without}
use Rattle.guild_model.specs.declared.presence.ShownStatus.{ShownStatus}
use Rattle.guild_model.specs.declared.presence.Presence.{Presence}
use Rattle.guild_model.specs.declared.voice.Voice.{Voice}
use Rattle.guild_model.specs.Record.{Record, voice_id, presence_id}
use Rattle.guild_model.specs.Ascending.{IsAscending}
use Rattle.voice_presence.specs.declared.voice_set.VoiceSet.{VoiceSet}
use Rattle.voice_presence.specs.Voices.{new_voice, with_voice}
use Rattle.voice_presence.specs.Presences.{new_presence, with_shown_status}

module _ (g : Record) (a : IsAscending g) where
  with_voices : (vs : List Voice) → IsById voice_id vs → IsAscending (record g { voices = vs })
  with_voices vs ascend = record {
    roles = a.roles;
    members = a.members;
    channels = a.channels;
    threads = a.threads;
    voices = ascend;
    presences = a.presences;
    held = a.held;
    overwrites = a.overwrites;
    joined = a.joined;
    messages = a.messages;
  }

  with_presences : (ps : List Presence) → IsById presence_id ps → IsAscending (record g { presences = ps })
  with_presences ps ascend = record {
    roles = a.roles;
    members = a.members;
    channels = a.channels;
    threads = a.threads;
    voices = a.voices;
    presences = ascend;
    held = a.held;
    overwrites = a.overwrites;
    joined = a.joined;
    messages = a.messages;
  }

  pub voice_set : (edit : VoiceSet) (channel : Option ℕ) → IsAscending (with_voice g edit channel)
  voice_set edit None = with_voices _ (IsById-without voice_id edit.user g.voices a.voices)
  voice_set edit (Some channel) = with_voices _ (IsById-put voice_id (new_voice edit channel) g.voices a.voices)

  pub presence_set : (user : ℕ) (shown : Option ShownStatus) → IsAscending (with_shown_status g user shown)
  presence_set user None = with_presences _ (IsById-without presence_id user g.presences a.presences)
  presence_set user (Some shown) = with_presences _ (IsById-put presence_id (new_presence user shown) g.presences a.presences)
