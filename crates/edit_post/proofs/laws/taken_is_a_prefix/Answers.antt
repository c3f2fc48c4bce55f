use Rattle.edit_post.proofs.QueueMoves.{in_order}
use Rattle.edit_post.proofs.laws.taken_is_a_prefix.Goals as goal

pub returns : goal.returns
returns c = in_order
