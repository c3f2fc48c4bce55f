use Rattle.object_json.proofs.Steps.{joined}
use Rattle.event_json.proofs.ready.application_field.Goals as goal

pub returns-clause-adds : goal.returns-clause-adds
returns-clause-adds c = joined c.in_ok-key.ensures (joined c.in_ok-open.ensures (joined c.in_ok-number_field.ensures.adds (joined c.in_ok-id_field.ensures.adds c.in_ok-close.ensures)))
