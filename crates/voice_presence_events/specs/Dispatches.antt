-- What the edits of voice states and presences owe to a viewer that is served before and after them
-- (Gateway Events, Voice State Update and Presence Update).
use Rattle.std.specs.Prelude.{ℕ, List, false, Option}
use Rattle.guild_model.specs.declared.presence.ShownStatus.{ShownStatus}
use Rattle.guild_model.specs.Record.{Record}
use Rattle.guild_model.specs.Statuses.{status_shown}
use Rattle.dispatch_types.specs.declared.viewer.Viewer.{Viewer}
use Rattle.dispatch_types.specs.declared.presences.VoiceObject.{VoiceObject}
use Rattle.dispatch_types.specs.declared.presences.PresenceObject.{PresenceObject}
use Rattle.dispatch_types.specs.declared.dispatch.Dispatch.{Dispatch}
use Rattle.dispatch_types.specs.declared.dispatch.Dispatch.TheVariants.{VoiceStateUpdate, PresenceUpdate}
use Rattle.voice_presence.specs.declared.VoicePresenceEdit.{VoicePresenceEdit}
use Rattle.voice_presence.specs.declared.VoicePresenceEdit.TheVariants as edit
use Rattle.voice_presence.specs.declared.voice_set.VoiceSet.{VoiceSet}
use Rattle.voice_presence.specs.declared.presence_set.PresenceSet.{PresenceSet}
use Rattle.event_views.specs.Asked.{asked}

-- a user in a voice channel, or in none
abbrev pub voice_told : VoiceSet → VoiceObject
voice_told edit = record { user = edit.user; channel = edit.channel; self_mute = edit.self_mute; self_deaf = edit.self_deaf }

-- how a user is shown; `None`: as offline
abbrev pub presence_told : ℕ → ℕ → Option ShownStatus → PresenceObject
presence_told guild user shown = record { guild = guild; user = user; status = shown }

-- of the guild of this id
abbrev pub voice_update : ℕ → Viewer → VoiceSet → List Dispatch
voice_update guild v edit = asked v false (VoiceStateUpdate (record { guild = guild; voice = voice_told edit }))

abbrev pub presence_update : ℕ → Viewer → PresenceSet → List Dispatch
presence_update guild v edit = asked v false (PresenceUpdate (presence_told guild edit.user (status_shown edit.status)))

abbrev pub voice_presence_dispatches : Record → Viewer → VoicePresenceEdit → List Dispatch
voice_presence_dispatches after v (edit.VoiceSet e) = voice_update after.id v e
voice_presence_dispatches after v (edit.PresenceSet e) = presence_update after.id v e
