use Rattle.collections.proofs.Finds.{IsById-put_all}
use Rattle.collections.proofs.by_id.ById.put_all.Goals as goal

pub invariant_of-self-2 : goal.invariant_of-self-2
invariant_of-self-2 g c = rw c.in_ok-put_each.ensures.ok (IsById-put_all g.T.Keyed.key _ c.args.items.items c.self.invariant)
