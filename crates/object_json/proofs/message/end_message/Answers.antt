use Rattle.object_json.proofs.Steps.{joined}
use Rattle.object_json.proofs.message.end_message.Goals as goal

pub returns-clause-adds : goal.returns-clause-adds
returns-clause-adds c = joined c.in_ok-parts_field.ensures.adds (joined c.in_ok-id_field.ensures.adds (joined c.in_ok-id_field-2.ensures.adds (joined c.in_ok-list_field.ensures.adds (joined c.in_ok-timestamp_field.ensures (joined c.in_ok-number_field.ensures.adds c.in_ok-close.ensures)))))
