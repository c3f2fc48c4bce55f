-- Which channels of a guild are shown to a member (Permissions, VIEW_CHANNEL): all of them, or, where the guild
-- withholds channels, those that the member sees. Discord sends all channels.
use Rattle.std.specs.Prelude.{ℕ, List, filter, Bool, not, ◌||◌}
use Rattle.guild_model.specs.declared.channel.Channel.{Channel}
use Rattle.guild_model.specs.declared.member.Member.{Member}
use Rattle.guild_model.specs.declared.voice.Voice.{Voice}
use Rattle.guild_model.specs.Record.{Record}
use Rattle.guild_model.specs.Sight.{Standing, standing, sees}

-- `private`: the guild withholds channels
abbrev pub is_shown : Bool → Standing → ℕ → Bool
is_shown private s channel = not private || sees s channel

-- of a record, to one of its members
module _ (private : Bool) (s : Record) (me : Member) where
  abbrev pub channel_shown : Channel → Bool
  channel_shown c = is_shown private (standing s me) c.id

  -- a voice state is shown where its channel is
  abbrev pub voice_shown : Voice → Bool
  voice_shown z = is_shown private (standing s me) z.channel

  abbrev pub shown_channels : List Channel
  shown_channels = filter channel_shown s.channels

  abbrev pub hidden_channels : List Channel
  hidden_channels = filter (λ (c : Channel). not (channel_shown c)) s.channels

  abbrev pub shown_voices : List Voice
  shown_voices = filter voice_shown s.voices

-- the guild as a member is shown it: with no other channels and voice states
abbrev pub shown_part : Record → Member → Record
shown_part s me = record s { channels = shown_channels s.private s me; voices = shown_voices s.private s me }
