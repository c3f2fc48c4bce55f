use Rattle.object_json.proofs.Steps.{joined}
use Rattle.event_json.proofs.body.empty.Goals as goal

pub returns : goal.returns
returns c = joined c.in_ok-open.ensures c.in_ok-close.ensures
