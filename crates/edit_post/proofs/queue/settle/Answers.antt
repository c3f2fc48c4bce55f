use Rattle.std.proofs.Common.{rules}
use Rattle.edit_post.proofs.QueueMoves.{merges, learns}
use Rattle.edit_post.proofs.queue.settle.Goals as goal

pub absorb-requires-clause-rule : goal.absorb-requires-clause-rule
absorb-requires-clause-rule g c = merges _ _ _ _ c.requires.roles.0 c.requires.roles.1

pub len_as-requires-clause-rule : goal.len_as-requires-clause-rule
len_as-requires-clause-rule g c = learns _ _ (search rules) (search rules)
