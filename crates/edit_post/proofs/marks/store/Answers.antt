use Rattle.std.proofs.Common.{arith}
use Rattle.edit_post.proofs.MarkMoves.{stores}
use Rattle.edit_post.proofs.marks.store.Goals as goal

pub store-requires : goal.store-requires
store-requires c = (c.requires.table.0, omega (arith, c.requires.table.1, c.requires.sender.3), stores _ _ _ _ _ c.requires.sender.0 c.requires.sender.1 c.requires.sender.2 c.requires.once.0)
