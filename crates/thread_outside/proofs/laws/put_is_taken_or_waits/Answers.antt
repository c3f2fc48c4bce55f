use Rattle.thread_outside.proofs.LaneMoves.{in_whole}
use Rattle.thread_outside.proofs.laws.put_is_taken_or_waits.Goals as goal

pub returns : goal.returns
returns c = in_whole
