use Rattle.serve_heads.proofs.Begun.{AreSoFar}
use Rattle.serve_heads.proofs.reading.read_each.Given as goal

abbrev pub invariant-loop-source : goal.invariant-loop-source
invariant-loop-source g l = AreSoFar g.S.Source.left g.S.Source.faults l.source-index l.fn.sources l.sources l.gathered.scripts.items l.gathered.bots.items l.gathered.guilds.keys
