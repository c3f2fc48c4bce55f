use Rattle.std.proofs.Common.{rules, arith}
use Rattle.stop_flag.proofs.FlagMoves.{joins, agrees}
use Rattle.stop_flag.proofs.flags.settle.Goals as goal

pub join_seat-requires : goal.join_seat-requires
join_seat-requires c = (c.requires.table.0, c.requires.table.1, c.requires.table.2, omega (arith, c.requires.table.3), joins _ _ _ _ c.requires.roles.0 c.requires.roles.1)

pub load-requires : goal.load-requires
load-requires c = (search rules, omega (arith, c.requires.table.3), agrees _ _ _ (search rules))
