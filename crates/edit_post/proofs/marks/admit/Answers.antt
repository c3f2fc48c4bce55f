use Rattle.std.proofs.Common.{arith}
use Rattle.edit_post.proofs.MarkMoves.{splits}
use Rattle.edit_post.proofs.marks.admit.Goals as goal

pub split_seat-requires : goal.split_seat-requires
split_seat-requires c = (c.requires.table.0, omega (arith, c.requires.table.1), splits _ _ c.requires.takes.0 c.requires.takes.1)
