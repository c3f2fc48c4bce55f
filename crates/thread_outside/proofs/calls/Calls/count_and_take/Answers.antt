use Rattle.std.proofs.Common.{rules}
use Rattle.thread_outside.proofs.CallMoves.{counts, pops, sees}
use Rattle.thread_outside.proofs.calls.Calls.count_and_take.Goals as goal

pub another-requires-clause-rule : goal.another-requires-clause-rule
another-requires-clause-rule g c = counts _ _ c.requires.takes

pub pop_as-requires-clause-rule : goal.pop_as-requires-clause-rule
pop_as-requires-clause-rule g c = (pops _ _ _ (search rules), sees _ _)
