use Rattle.collections.proofs.Finds.{IsById-where}
use Rattle.collections.proofs.by_id.ById.retain.Goals as goal

pub invariant_of-self : goal.invariant_of-self
invariant_of-self g c =
    let kept = c.retain.ensures.filtered in
    rw (kept.4) (IsById-where g.T.Keyed.key kept.0 _ c.self.invariant)
