use Rattle.std.proofs.Common.{arith}
use Rattle.stop_flag.proofs.FlagMoves.{sets}
use Rattle.stop_flag.proofs.flags.set.Goals as goal

pub store-requires : goal.store-requires
store-requires c = (c.requires.table.0, omega (arith, c.requires.table.1), sets _ _ _ _ c.requires.seat.0 c.requires.seat.1 (omega (arith, c.requires.seat.2)))
