-- Ids as the numbers of 64 bits that they are.
use Rattle.std.specs.Prelude.{ℕ, ◌<◌, ◌^◌, List, [], ◌∷◌, Option, Some, None}
use Rattle.gateway_frames.specs.declared.frame.Frame.{Frame}
use Rattle.gateway_frames.specs.declared.frame.Frame.TheVariants as frame
use Rattle.gateway_frames.specs.declared.frame.VoiceAsk.{VoiceAsk}
use Rattle.gateway_frames.specs.declared.frame.Ask.{Ask}
use Rattle.gateway_frames.specs.declared.frame.Find.{Find}
use Rattle.gateway_frames.specs.declared.frame.Find.TheVariants.{Query, Users}

abbrev pub IdFits : ℕ → Type 0
IdFits id = id < 2 ^ 64

abbrev pub IdsFit : List ℕ → Type 0
IdsFit [] = Unit {0}
IdsFit (id ∷ ids) = IdFits id × IdsFit ids

abbrev pub ChannelFits : Option ℕ → Type 0
ChannelFits None = Unit {0}
ChannelFits (Some id) = IdFits id

abbrev pub VoiceFits : VoiceAsk → Type 0
VoiceFits v = IdFits v.guild × ChannelFits v.channel

abbrev pub FindFits : Find → Type 0
FindFits (Query query limit) = Unit {0}
FindFits (Users ids) = IdsFit ids

abbrev pub AskFits : Ask → Type 0
AskFits a = IdFits a.guild × FindFits a.find

abbrev pub FrameFits : Frame → Type 0
FrameFits (frame.Heartbeat n) = Unit {0}
FrameFits (frame.Identify i) = Unit {0}
FrameFits (frame.Presence s) = Unit {0}
FrameFits (frame.Voice v) = VoiceFits v
FrameFits (frame.Resume r) = Unit {0}
FrameFits (frame.Ask a) = AskFits a
