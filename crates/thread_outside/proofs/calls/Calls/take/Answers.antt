use Rattle.thread_outside.proofs.CallMoves.{pops}
use Rattle.thread_outside.proofs.calls.Calls.take.Goals as goal

pub pop_as-requires-clause-rule : goal.pop_as-requires-clause-rule
pop_as-requires-clause-rule g c = (pops _ _ _ c.requires.takes, λ items views d at. tt)
