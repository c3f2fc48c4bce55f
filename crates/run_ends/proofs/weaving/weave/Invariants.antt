use Rattle.std.proofs.Common.{◌≡◌, ◌++◌, length, reverse}
use Rattle.run_ends.specs.Lists.{woven}
use Rattle.run_ends.proofs.weaving.weave.Given as goal

abbrev pub invariant-loop-item : goal.invariant-loop-item
invariant-loop-item g l = l.all.items ++ woven (reverse l.first.items) (reverse l.second.items) ≡ woven l.fn.first.items l.fn.second.items

abbrev pub decreases-loop-item : goal.decreases-loop-item
decreases-loop-item g l = length l.first.items

abbrev pub invariant-loop-other : goal.invariant-loop-other
invariant-loop-other g l = l.all.items ++ reverse l.second.items ≡ woven l.fn.first.items l.fn.second.items

abbrev pub decreases-loop-other : goal.decreases-loop-other
decreases-loop-other g l = length l.second.items
