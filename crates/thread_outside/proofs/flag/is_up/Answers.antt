use Rattle.std.proofs.Common.{arith}
use Rattle.thread_outside.proofs.FlagMoves.{finds}
use Rattle.thread_outside.proofs.flag.is_up.Goals as goal

pub load-requires : goal.load-requires
load-requires c = (c.requires.flag.0, omega (arith, c.requires.flag.1), finds _ _ _ c.requires.finds.0 c.requires.finds.1)
