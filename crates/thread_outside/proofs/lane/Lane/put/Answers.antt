use Rattle.thread_outside.proofs.LaneMoves.{pushes}
use Rattle.thread_outside.proofs.lane.Lane.put.Goals as goal

pub push_as-requires-clause-rule : goal.push_as-requires-clause-rule
push_as-requires-clause-rule g c n = pushes n _ _ _ c.requires.puts
