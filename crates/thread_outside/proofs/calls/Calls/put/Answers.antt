use Rattle.thread_outside.proofs.CallMoves.{pushes}
use Rattle.thread_outside.proofs.calls.Calls.put.Goals as goal

pub push_as-requires-clause-rule : goal.push_as-requires-clause-rule
push_as-requires-clause-rule g c n = pushes n _ _ _ c.requires.dial.0 c.requires.dial.1 c.requires.dial.2 c.requires.unended
