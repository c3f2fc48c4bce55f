use Rattle.object_json.proofs.Steps.{joined}
use Rattle.object_json.proofs.thread.metadata_field.Goals as goal

pub returns : goal.returns
returns c = joined c.in_ok-key.ensures (joined c.in_ok-open.ensures (joined c.in_ok-flag_field.ensures (joined c.in_ok-flag_field-2.ensures c.in_ok-close.ensures)))
