use Rattle.edit_post.proofs.QueueMoves.{pops}
use Rattle.edit_post.proofs.queue.try_take.Goals as goal

pub try_pop_from-requires-clause-rule : goal.try_pop_from-requires-clause-rule
try_pop_from-requires-clause-rule g c = (pops _ _ c.requires.taker, λ items views d at. tt)
