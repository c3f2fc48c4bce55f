use Rattle.channel_privacy.proofs.Enough.{note_is_enough}
use Rattle.channel_privacy.proofs.law.note_is_enough.Goals as goal

pub returns : goal.returns
returns c = note_is_enough
