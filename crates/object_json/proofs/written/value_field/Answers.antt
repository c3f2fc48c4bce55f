use Rattle.object_json.proofs.Steps.{joined}
use Rattle.object_json.proofs.written.value_field.Goals as goal

pub returns-clause-adds : goal.returns-clause-adds
returns-clause-adds g c = joined c.in_ok-key.ensures c.in_ok-write.ensures.adds
