use Rattle.thread_outside.proofs.CallMoves.{in_turn}
use Rattle.thread_outside.proofs.laws.calls_are_taken_in_turn.Goals as goal

pub returns : goal.returns
returns c = in_turn
