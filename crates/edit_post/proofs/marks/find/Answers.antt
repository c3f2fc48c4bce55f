use Rattle.std.proofs.Common.{arith}
use Rattle.edit_post.proofs.MarkMoves.{finds}
use Rattle.edit_post.proofs.marks.find.Goals as goal

pub load-requires : goal.load-requires
load-requires c = (c.requires.table.0, omega (arith, c.requires.table.1, c.requires.taker.1), finds _ _ _ _ c.requires.taker.0)
