use Rattle.std.proofs.Common.{◌≡◌, ◌+◌, ◌≤◌, length}
use Rattle.std.specs.Vec.{vec_len, vec_capacity}
use Rattle.std.specs.Vec.Iter.{into_iter_items, into_iter_len}
use Rattle.collections.specs.ById.{IsById, put_all}
use Rattle.collections.proofs.put_each.put_each.Given as goal

-- what is still to be put gives what was to be put from the start
abbrev pub invariant-loop-item : goal.invariant-loop-item
invariant-loop-item g l = (put_all g.T.Keyed.key l.items.items (into_iter_items l.item-iterator) ≡ put_all g.T.Keyed.key l.initial.items.items (into_iter_items l.initial.item-iterator))
    × IsById g.T.Keyed.key l.items.items
    × (vec_len l.items + length (into_iter_items l.item-iterator) ≤ vec_capacity l.items)
    × (into_iter_len l.item-iterator ≡ length (into_iter_items l.item-iterator))
