use Rattle.std.proofs.Common.{arith}
use Rattle.collections.proofs.Ids.{count_le, insert_is_put, IsById-put}
use Rattle.collections.proofs.by_id.ById.insert.Goals as goal

pub insert-requires : goal.insert-requires
insert-requires g c = let le = count_le g.T.Keyed.key (g.T.Keyed.key c.args.item) c.self.inside.items.items in grind arith

pub invariant_of-self-2 : goal.invariant_of-self-2
invariant_of-self-2 g c =
    rw (
      c.in_ok-insert.ensures.items,
      c.place_of-place.ensures,
      c.key.ensures,
      c.as_slice.ensures.value,
      insert_is_put g.T.Keyed.key c.args.item c.self.inside.items.items (rw c.self.view_is c.requires),
    )
    (IsById-put g.T.Keyed.key c.args.item _ c.self.invariant)

pub returns-clause-ok : goal.returns-clause-ok
returns-clause-ok g c =
    rw (c.in_ok-insert.ensures.items, c.place_of-place.ensures, c.key.ensures, c.as_slice.ensures.value, c.self.view_is)
    (insert_is_put g.T.Keyed.key c.args.item c.args.self.now c.requires)
