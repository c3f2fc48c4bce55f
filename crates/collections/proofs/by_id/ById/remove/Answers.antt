use Rattle.std.proofs.Common.{not}
use Rattle.std.specs.Prelude.{◌==◌}
use Rattle.collections.proofs.Finds.{IsById-filter}
use Rattle.collections.proofs.by_id.ById.remove.Goals as goal

pub invariant_of-self : goal.invariant_of-self
invariant_of-self g c =
    rw c.remove_at.ensures
    (IsById-filter g.T.Keyed.key (λ x. not (g.T.Keyed.key x == c.args.id)) _ c.self.invariant)
