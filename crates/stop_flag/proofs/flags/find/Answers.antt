use Rattle.std.proofs.Common.{arith}
use Rattle.stop_flag.proofs.FlagMoves.{finds}
use Rattle.stop_flag.proofs.flags.find.Goals as goal

pub load-requires : goal.load-requires
load-requires c = (c.requires.table.0, omega (arith, c.requires.table.1), finds _ _ _ c.requires.seat.0)
