use Rattle.load_parts.proofs.ByKind.{by_kind}
use Rattle.load_parts.proofs.laws.split_by_kind.Goals as goal

pub returns : goal.returns
returns g c = by_kind g.C.Clock.tale
