use Rattle.thread_events.proofs.Noted.{thread_note_is_enough}
use Rattle.thread_events.proofs.law.thread_note_is_enough.Goals as goal

pub returns : goal.returns
returns c = thread_note_is_enough
