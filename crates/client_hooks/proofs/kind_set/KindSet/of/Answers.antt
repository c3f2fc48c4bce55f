use Rattle.client_hooks.proofs.KindSets.{holds-one}
use Rattle.client_hooks.proofs.kind_set.KindSet.of.Goals as goal

pub returns : goal.returns
returns c = λ k. rw c.bit.ensures (holds-one k c.args.kind)
