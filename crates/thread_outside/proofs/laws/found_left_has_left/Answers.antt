use Rattle.thread_outside.proofs.FlagMoves.{is_left}
use Rattle.thread_outside.proofs.laws.found_left_has_left.Goals as goal

pub returns : goal.returns
returns c = is_left
