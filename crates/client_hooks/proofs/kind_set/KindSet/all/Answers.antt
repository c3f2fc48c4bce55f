use Rattle.client_hooks.proofs.KindSets.{holds-all}
use Rattle.client_hooks.proofs.kind_set.KindSet.all.Goals as goal

pub returns : goal.returns
returns c = holds-all
