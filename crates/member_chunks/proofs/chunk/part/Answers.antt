use Rattle.std.proofs.Common.{◌≡◌, ◌*◌, length, arith}
use Rattle.std.specs.Prelude.{min}
use Rattle.member_chunks.proofs.Steps.{piece}
use Rattle.member_chunks.proofs.chunk.part.Goals as goal

pub returns : goal.returns
returns c =
    let short = c.well_formed.0 in
    let start : c.min-start.result ≡ min (c.args.index * 1000) (length c.args.members.now) = omega (arith, c.min-start.ensures, c.saturating_mul.ensures, short) in
    piece (λ member. member.now) c.args.members.now (c.args.index * 1000) c.min-start.result c.min-end.result start c.min-end.ensures
