use Rattle.collections.proofs.Ids.{IsById-put}
use Rattle.collections.proofs.by_id.ById.replace.Goals as goal

pub invariant_of-self : goal.invariant_of-self
invariant_of-self g c = rw c.replace_at.ensures.set (IsById-put g.T.Keyed.key c.args.item _ c.self.invariant)
