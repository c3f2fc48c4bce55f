use Rattle.std.proofs.Common.{◌≡◌, ◌++◌, map, take, drop}
use Rattle.collections.proofs.by_id.change_each.Given as goal

abbrev pub invariant-loop-item : goal.invariant-loop-item
invariant-loop-item g l = l.item-items ≡ map (g.C.Change.changed l.change) (take l.item-index l.fn.items.items) ++ drop l.item-index l.fn.items.items
