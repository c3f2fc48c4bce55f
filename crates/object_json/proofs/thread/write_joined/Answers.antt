use Rattle.object_json.proofs.Steps.{joined}
use Rattle.object_json.proofs.thread.write_joined.Goals as goal

pub returns-clause-adds : goal.returns-clause-adds
returns-clause-adds c = joined c.in_ok-open.ensures (joined c.in_ok-number_field.ensures.adds (joined c.in_ok-time_field.ensures.adds c.in_ok-close.ensures))
