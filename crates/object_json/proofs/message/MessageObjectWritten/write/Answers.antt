use Rattle.object_json.proofs.Steps.{joined}
use Rattle.object_json.proofs.message.MessageObjectWritten.write.Goals as goal

pub returns-clause-adds : goal.returns-clause-adds
returns-clause-adds c = joined c.in_ok-open.ensures (joined c.in_ok-parts_field.ensures.adds (joined c.in_ok-value_field.ensures.adds (joined c.in_ok-id_field.ensures.adds (joined c.in_ok-parts_field-2.ensures.adds (joined c.in_ok-text_field.ensures c.in_ok-end_message.ensures.adds)))))
