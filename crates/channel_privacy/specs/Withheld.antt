-- What an edit of a guild tells a viewer where channels are withheld, by what it tells where none are (Gateway
-- Events, Receive Events; Permissions, VIEW_CHANNEL). Discord sends all channels, so all of this is this server's
-- choice.
use Rattle.std.specs.Prelude.{ℕ, List, [], ◌∷◌, ◌++◌, filter, flat_map, Bool, true, false, not, ◌&&◌, Option, Some, None, if◌then◌else◌}
use Rattle.collections.specs.ById.{has_id}
use Rattle.guild_model.specs.declared.channel.Channel.{Channel}
use Rattle.guild_model.specs.declared.voice.Voice.{Voice}
use Rattle.guild_model.specs.Record.{Record, channel_id, speaks_in}
use Rattle.dispatch_types.specs.declared.presences.VoiceStateUpdate.{VoiceStateUpdate as VoiceUpdate}
use Rattle.dispatch_types.specs.declared.viewer.Viewer.{Viewer}
use Rattle.dispatch_types.specs.declared.dispatch.Dispatch.{Dispatch}
use Rattle.dispatch_types.specs.declared.dispatch.Dispatch.TheVariants.{ChannelCreate, ChannelUpdate, ChannelDelete, ThreadListSync, VoiceStateUpdate}
use Rattle.dispatch_types.specs.Objects.{channel_object, voice_object}
use Rattle.event_views.specs.Asked.{asked}

-- which channels are shown before and after an edit, and whose voice state was shown before it
pub record Showing : Type 0 where
  pub before : ℕ → Bool
  pub after : ℕ → Bool
  pub in_voice : ℕ → Bool

-- a user that went where it is not shown is told to be in voice no longer
abbrev pub left_voice : VoiceUpdate → Dispatch
left_voice u = VoiceStateUpdate (record u { voice = record u.voice { channel = None; self_mute = false; self_deaf = false } })

-- a voice state in a channel that is shown, or the end of one that was
abbrev pub told_voice : Showing → VoiceUpdate → Option ℕ → List Dispatch
told_voice x u None = if x.in_voice u.voice.user then VoiceStateUpdate u ∷ [] else []
told_voice x u (Some channel) =
    if x.after channel then VoiceStateUpdate u ∷ [] else (if x.in_voice u.voice.user then left_voice u ∷ [] else [])

-- what becomes of a dispatch that is told where nothing is withheld
abbrev pub told_shown : Showing → Dispatch → List Dispatch
told_shown x (ChannelCreate o) = if x.after o.id then ChannelCreate o ∷ [] else []
told_shown x (ChannelUpdate o) = if x.before o.id && x.after o.id then ChannelUpdate o ∷ [] else []
told_shown x (ChannelDelete o) = if x.before o.id then ChannelDelete o ∷ [] else []
told_shown x (VoiceStateUpdate u) = told_voice x u u.voice.channel
told_shown x d = d ∷ []

-- CHANNEL_DELETE of a channel of a guild
abbrev pub lost : ℕ → Viewer → Channel → List Dispatch
lost guild v c = asked v false (ChannelDelete (channel_object guild c))

abbrev pub created : ℕ → Viewer → Channel → List Dispatch
created guild v c = asked v false (ChannelCreate (channel_object guild c))

-- by the record after an edit
module _ (t : Record) (v : Viewer) where
  abbrev pub voice_there : Voice → List Dispatch
  voice_there voice = asked v false (VoiceStateUpdate (record { guild = t.id; voice = voice_object voice }))

  -- CHANNEL_CREATE of a channel, and then the voice states in it
  abbrev pub gained : Channel → List Dispatch
  gained c = created t.id v c ++ flat_map voice_there (filter (speaks_in c.id) t.voices)

-- a channel that stands before and after an edit is lost if it was shown and is not, and gained if it is shown and
-- was not
module _ (s t : Record) (x : Showing) where
  abbrev pub stands : ℕ → Bool
  stands channel = has_id channel_id channel s.channels && has_id channel_id channel t.channels

  abbrev pub is_lost : ℕ → Bool
  is_lost channel = stands channel && (x.before channel && not (x.after channel))

  abbrev pub is_gained : ℕ → Bool
  is_gained channel = stands channel && (not (x.before channel) && x.after channel)

  -- each lost channel as it was, and each gained one as it is
  abbrev pub losses : Viewer → List Dispatch
  losses v = flat_map (lost s.id v) (filter (λ (c : Channel). is_lost c.id) s.channels)

  abbrev pub gains : Viewer → List Dispatch
  gains v = flat_map (gained t v) (filter (λ (c : Channel). is_gained c.id) t.channels)

abbrev pub is_sync : Dispatch → Bool
is_sync (ThreadListSync sync) = true
is_sync d = false

abbrev pub is_no_sync : Dispatch → Bool
is_no_sync d = not (is_sync d)

-- the list where channels are withheld, by the records before and after an edit: THREAD_LIST_SYNC comes last
abbrev pub withheld : Record → Record → Showing → Viewer → List Dispatch → List Dispatch
withheld s t x v ds =
    flat_map (told_shown x) (filter is_no_sync ds) ++ (losses s t x v ++ (gains s t x v ++ filter is_sync ds))
