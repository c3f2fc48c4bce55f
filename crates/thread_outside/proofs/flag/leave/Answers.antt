use Rattle.std.proofs.Common.{arith}
use Rattle.thread_outside.proofs.FlagMoves.{leaves}
use Rattle.thread_outside.proofs.flag.leave.Goals as goal

pub store-requires : goal.store-requires
store-requires c = (c.requires.flag.0, omega (arith, c.requires.flag.1), leaves _ _ _ c.requires.leaves.0 c.requires.leaves.1)
