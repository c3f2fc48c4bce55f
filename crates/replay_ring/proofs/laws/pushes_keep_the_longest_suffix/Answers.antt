use Rattle.replay_ring.proofs.Suffixes.{pushed_all-fresh, pushed-replay_of, longest_suffix-is_longest}
use Rattle.replay_ring.proofs.laws.pushes_keep_the_longest_suffix.Goals as goal

pub returns-clause-all : goal.returns-clause-all
returns-clause-all c = pushed_all-fresh

pub returns-clause-one_more : goal.returns-clause-one_more
returns-clause-one_more c = pushed-replay_of

pub returns-clause-longest : goal.returns-clause-longest
returns-clause-longest c = longest_suffix-is_longest
