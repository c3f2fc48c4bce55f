use Rattle.edit_post.proofs.QueueMoves.{pushes}
use Rattle.edit_post.proofs.queue.send.Goals as goal

pub push_as-requires-clause-rule : goal.push_as-requires-clause-rule
push_as-requires-clause-rule g c n = pushes n _ _ _ c.requires.sender.0 c.requires.sender.1 c.requires.sender.2 c.requires.number
