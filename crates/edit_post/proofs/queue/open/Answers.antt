use Rattle.edit_post.proofs.QueueMoves.{opens}
use Rattle.edit_post.proofs.queue.open.Goals as goal

pub with_rule-requires : goal.with_rule-requires
with_rule-requires c = opens
