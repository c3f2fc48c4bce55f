use Rattle.std.proofs.Common.{arith}
use Rattle.stop_flag.proofs.FlagMoves.{splits}
use Rattle.stop_flag.proofs.flags.admit.Goals as goal

pub split_seat-requires : goal.split_seat-requires
split_seat-requires c = (c.requires.table.0, omega (arith, c.requires.table.1), splits _ _ c.requires.keeps)
