use Rattle.collections.proofs.Finds.{IsById-map}
use Rattle.collections.proofs.by_id.ById.change_all.Goals as goal

pub invariant_of-self : goal.invariant_of-self
invariant_of-self g c =
    rw c.change_each.ensures
    (IsById-map g.T.Keyed.key g.T.Keyed.key (g.C.Change.changed c.args.change) (g.met.C.Change.keeps_key c.args.change) _ c.self.invariant)
