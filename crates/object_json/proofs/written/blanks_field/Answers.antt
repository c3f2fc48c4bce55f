use Rattle.object_json.proofs.Steps.{joined}
use Rattle.object_json.proofs.written.blanks_field.Goals as goal

pub returns : goal.returns
returns c = joined c.in_ok-key.ensures c.in_ok-blanks.ensures
