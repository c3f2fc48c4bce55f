use Rattle.collections.proofs.Ids.{IsById-changed}
use Rattle.collections.proofs.by_id.ById.change.Goals as goal

pub invariant_of-self : goal.invariant_of-self
invariant_of-self g c =
    rw c.change_at.ensures
    (IsById-changed g.T.Keyed.key c.args.id (g.C.Change.changed c.args.change) _ (g.met.C.Change.keeps_key c.args.change) c.self.invariant)
