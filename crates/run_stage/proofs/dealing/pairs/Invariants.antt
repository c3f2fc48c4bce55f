use Rattle.std.proofs.Common.{◌≡◌, ◌++◌, length, map}
use Rattle.run_stage.specs.Dealing.{paired}
use Rattle.run_stage.proofs.dealing.pairs.Given as goal

abbrev pub invariant-loop-item : goal.invariant-loop-item
invariant-loop-item g l = record {
  so_far : map (λ pair. pair.items) l.pairs.items ++ paired l.firsts.items l.seconds.items ≡ paired l.fn.first.items l.fn.second.items;
  as_long : length l.seconds.items ≡ length l.firsts.items;
}

abbrev pub decreases-loop-item : goal.decreases-loop-item
decreases-loop-item g l = length l.firsts.items
