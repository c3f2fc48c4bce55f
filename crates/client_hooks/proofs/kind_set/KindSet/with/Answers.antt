use Rattle.client_hooks.proofs.KindSets.{holds-with}
use Rattle.client_hooks.proofs.kind_set.KindSet.with.Goals as goal

pub returns : goal.returns
returns c = λ k. rw (c.bit.ensures, ← c.self.view_is) (holds-with c.self.inside.0 k c.args.kind)
