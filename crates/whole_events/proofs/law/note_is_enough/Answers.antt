use Rattle.whole_events.proofs.Noted.{note_is_enough}
use Rattle.whole_events.proofs.law.note_is_enough.Goals as goal

pub returns : goal.returns
returns c = note_is_enough
