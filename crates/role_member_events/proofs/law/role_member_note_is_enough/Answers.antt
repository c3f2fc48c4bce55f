use Rattle.role_member_events.proofs.Noted.{role_member_note_is_enough}
use Rattle.role_member_events.proofs.law.role_member_note_is_enough.Goals as goal

pub returns : goal.returns
returns c = role_member_note_is_enough
