-- Nothing is told of a channel that is not shown (Permissions, VIEW_CHANNEL).
use Rattle.std.specs.Prelude.{◌≡◌, ℕ, Bool, true, false, ◌||◌, All, Option, Some, None}
use Rattle.guild_model.specs.declared.member.Member.{Member}
use Rattle.guild_model.specs.Record.{Record}
use Rattle.guild_model.specs.Sight.{standing}
use Rattle.guild_model.specs.Shown.{is_shown}
use Rattle.dispatch_types.specs.declared.channels.ChannelObject.{ChannelObject}
use Rattle.dispatch_types.specs.declared.presences.VoiceObject.{VoiceObject}
use Rattle.dispatch_types.specs.declared.viewer.Viewer.{Viewer}
use Rattle.dispatch_types.specs.declared.dispatch.Dispatch.{Dispatch}
use Rattle.dispatch_types.specs.declared.dispatch.Dispatch.TheVariants.{GuildCreate, ChannelCreate, ChannelUpdate, ChannelDelete, VoiceStateUpdate}
use Rattle.dispatch_types.specs.Serves.{served}
use Rattle.edit_apply.specs.declared.Edit.{Edit}
use Rattle.edit_apply.specs.Edits.{after}
use Rattle.edit_events.specs.Greeting.{greeting}
use Rattle.edit_events.specs.Due.{due}

-- a voice state that has a channel is in one of these
abbrev pub IsInOne : (ℕ → Bool) → VoiceObject → Type 0
IsInOne shown voice = (channel : ℕ) → voice.channel ≡ Some channel → shown channel ≡ true

-- each channel object of a dispatch is of one of these channels, and so is each voice state that has a channel
abbrev pub TellsOnly : (ℕ → Bool) → Dispatch → Type 0
TellsOnly shown (GuildCreate create) = All (λ (o : ChannelObject). shown o.id ≡ true) create.channels × All (IsInOne shown) create.voices
TellsOnly shown (ChannelCreate o) = shown o.id ≡ true
TellsOnly shown (ChannelUpdate o) = shown o.id ≡ true
TellsOnly shown (ChannelDelete o) = shown o.id ≡ true
TellsOnly shown (VoiceStateUpdate update) = IsInOne shown update.voice
TellsOnly shown d = Unit {0}

-- a channel of a guild is shown to a viewer that is served, unless it is withheld
abbrev pub shown_to : Record → Option Member → ℕ → Bool
shown_to s None channel = false
shown_to s (Some me) channel = is_shown s.private (standing s me) channel

abbrev pub shown_for : Record → Viewer → ℕ → Bool
shown_for s v = shown_to s (served v s)

-- what is due for an edit tells only of channels that are shown before it or after it
abbrev pub EditTellsOnly : Type 0
EditTellsOnly = (s : Record) (e : Edit) (v : Viewer)
    → All (TellsOnly (λ channel. shown_for s v channel || shown_for (after s e) v channel)) (due s e v)

-- GUILD_CREATE tells only of channels that are shown in the record that it is of
abbrev pub GreetingTellsOnly : Type 0
GreetingTellsOnly = (s : Record) (v : Viewer) (me : Member)
    → TellsOnly (is_shown s.private (standing s me)) (GuildCreate (greeting s v me))
