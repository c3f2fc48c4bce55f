use Rattle.thread_outside.proofs.CallMoves.{forks}
use Rattle.thread_outside.proofs.calls.Calls.admit.Goals as goal

pub another-requires-clause-rule : goal.another-requires-clause-rule
another-requires-clause-rule c = forks _ _ c.requires.takes
