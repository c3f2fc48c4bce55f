-- Members in voice channels (Voice Resource, Voice State Object).
use Rattle.std.specs.Prelude.{ℕ, [], ◌∷◌, Bool, true, false, not, Option, Some, None}
use Rattle.collections.specs.ById.{find_id, has_id, put_id, without_id}
use Rattle.guild_model.specs.declared.channel.Channel.{Channel}
use Rattle.guild_model.specs.declared.channel.ChannelKind.{ChannelKind}
use Rattle.guild_model.specs.declared.channel.ChannelKind.TheVariants as channel
use Rattle.guild_model.specs.declared.voice.Voice.{Voice}
use Rattle.guild_model.specs.declared.verdict.Verdict.{Verdict}
use Rattle.guild_model.specs.declared.verdict.Verdict.TheVariants.{NotInVoice, WrongType}
use Rattle.guild_model.specs.Record.{Record, channel_id, voice_id}
use Rattle.guild_model.specs.Tests.{refused_if, first_of, unknown_member, unknown_channel}
use Rattle.voice_presence.specs.declared.voice_set.VoiceSet.{VoiceSet}

-- members speak in channels of these types (Channels Resource, Channel Types)
abbrev pub has_voice : ChannelKind → Bool
has_voice channel.Voice = true
has_voice channel.Stage = true
has_voice channel.Text = false
has_voice channel.Category = false
has_voice channel.Announcement = false
has_voice channel.Forum = false

abbrev pub has_voice_there : Option Channel → Bool
has_voice_there None = false
has_voice_there (Some c) = has_voice c.kind

-- who leaves is in voice
abbrev pub not_in_voice : Record → ℕ → Option Verdict
not_in_voice g user = refused_if (not (has_id voice_id user g.voices)) NotInVoice

-- who joins finds a channel for it
abbrev pub no_voice_channel : Record → ℕ → Option Verdict
no_voice_channel g channel = first_of (
    unknown_channel g channel
    ∷ refused_if (not (has_voice_there (find_id channel_id channel g.channels))) WrongType
    ∷ [])

abbrev pub no_channel_for_voice : Record → ℕ → Option ℕ → Option Verdict
no_channel_for_voice g user None = not_in_voice g user
no_channel_for_voice g user (Some channel) = no_voice_channel g channel

-- voice_set: in a channel, or in none
abbrev pub voice_set_verdict : Record → VoiceSet → Option Verdict
voice_set_verdict g edit = first_of (unknown_member g edit.user ∷ no_channel_for_voice g edit.user edit.channel ∷ [])

abbrev pub new_voice : VoiceSet → ℕ → Voice
new_voice edit channel = record { user = edit.user; channel = channel; self_mute = edit.self_mute; self_deaf = edit.self_deaf }

abbrev pub voice_joined : Record → Voice → Record
voice_joined g voice = record g { voices = put_id voice_id voice g.voices }

abbrev pub voice_left : Record → ℕ → Record
voice_left g user = record g { voices = without_id voice_id user g.voices }

abbrev pub with_voice : Record → VoiceSet → Option ℕ → Record
with_voice g edit None = voice_left g edit.user
with_voice g edit (Some channel) = voice_joined g (new_voice edit channel)

abbrev pub voice_was_set : Record → VoiceSet → Record
voice_was_set g edit = with_voice g edit edit.channel
