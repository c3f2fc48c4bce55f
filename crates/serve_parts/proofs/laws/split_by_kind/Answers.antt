use Rattle.serve_parts.proofs.ByKind.{by_kind}
use Rattle.serve_parts.proofs.laws.split_by_kind.Goals as goal

pub returns : goal.returns
returns g c = by_kind g.S.Source.left g.S.Source.faults g.D.Door.tale g.D.Door.faults g.C.Clock.tale
