use Rattle.edit_post.proofs.QueueMoves.{forks}
use Rattle.edit_post.proofs.queue.admit.Goals as goal

pub another-requires-clause-rule : goal.another-requires-clause-rule
another-requires-clause-rule c = forks _ _ c.requires.takes
