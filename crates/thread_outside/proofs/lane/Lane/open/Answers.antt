use Rattle.std.proofs.Common.{rules}
use Rattle.thread_outside.proofs.LaneMoves.{opens, forks}
use Rattle.thread_outside.proofs.lane.Lane.open.Goals as goal

pub with_rule-requires : goal.with_rule-requires
with_rule-requires c = opens

pub another-takes-requires-clause-rule : goal.another-takes-requires-clause-rule
another-takes-requires-clause-rule c = forks _ _ (search rules) (search rules)
