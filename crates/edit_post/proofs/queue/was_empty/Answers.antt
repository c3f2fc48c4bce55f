use Rattle.std.proofs.Common.{rules}
use Rattle.edit_post.proofs.QueueMoves.{counts, sees}
use Rattle.edit_post.proofs.queue.was_empty.Goals as goal

pub another-requires-clause-rule : goal.another-requires-clause-rule
another-requires-clause-rule c = counts _ _ _ c.requires.taker

pub is_empty_as-requires-clause-rule : goal.is_empty_as-requires-clause-rule
is_empty_as-requires-clause-rule c = sees _ _

pub another-requires-2-clause-rule : goal.another-requires-2-clause-rule
another-requires-2-clause-rule c = counts _ _ _ (search rules)
