use Rattle.channel_events.proofs.Noted.{channel_note_is_enough}
use Rattle.channel_events.proofs.law.channel_note_is_enough.Goals as goal

pub returns : goal.returns
returns c = channel_note_is_enough
