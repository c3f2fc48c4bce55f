-- What a client asks for its own bot in a guild, as an edit of the guild (Gateway Events, Update Presence;
-- Update Voice State).
use Rattle.std.specs.Prelude.{Bool, not, ◌&&◌, ◌==◌, Option, Some, None, if◌then◌else◌}
use Rattle.guild_model.specs.declared.presence.Status.{Status}
use Rattle.guild_model.specs.Record.{Record}
use Rattle.gateway_frames.specs.declared.frame.VoiceAsk.{VoiceAsk}
use Rattle.dispatch_types.specs.declared.viewer.Viewer.{Viewer}
use Rattle.dispatch_types.specs.Serves.{serves}
use Rattle.voice_presence.specs.declared.VoicePresenceEdit.{VoicePresenceEdit}
use Rattle.voice_presence.specs.declared.VoicePresenceEdit.TheVariants.{VoiceSet, PresenceSet}
use Rattle.edit_apply.specs.declared.Edit.{Edit}
use Rattle.edit_apply.specs.declared.Edit.TheVariants.{VoicePresence}

-- a wish goes to a guild that is available, and that the viewer is served
abbrev pub is_heard : Record → Viewer → Bool
is_heard s v = serves v s && not s.outage

abbrev pub heard : Bool → VoicePresenceEdit → Option Edit
heard is_heard wish = if is_heard then Some (VoicePresence wish) else None

-- the same status in each such guild
abbrev pub presence_wish : Record → Viewer → Status → Option Edit
presence_wish s v status = heard (is_heard s v) (PresenceSet (record { user = v.user; status = status }))

-- a channel, or none, only in the guild that is named
abbrev pub voice_wish : Record → Viewer → VoiceAsk → Option Edit
voice_wish s v ask = heard (ask.guild == s.id && is_heard s v) (VoiceSet (record {
  user = v.user;
  channel = ask.channel;
  self_mute = ask.self_mute;
  self_deaf = ask.self_deaf;
}))
