use Rattle.object_json.proofs.Steps.{joined}
use Rattle.event_json.proofs.message.emoji_field.Goals as goal

pub returns : goal.returns
returns c = joined c.in_ok-key.ensures (joined c.in_ok-open.ensures (joined c.in_ok-null_field.ensures (joined c.in_ok-text_field.ensures c.in_ok-close.ensures)))
