use Rattle.thread_outside.proofs.CallMoves.{opens}
use Rattle.thread_outside.proofs.calls.Calls.open.Goals as goal

pub with_rule-requires : goal.with_rule-requires
with_rule-requires c = opens
