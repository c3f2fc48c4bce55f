use Rattle.std.proofs.Common.{◌≡◌, ◌++◌, length}
use Rattle.run_stage.specs.Dealing.{evens, odds}
use Rattle.run_stage.proofs.dealing.deal_in_two.Given as goal

abbrev pub invariant-loop-left : goal.invariant-loop-left
invariant-loop-left g l = record {
  first : l.first.items ++ evens l.left.items ≡ evens l.fn.items.items;
  second : l.second.items ++ odds l.left.items ≡ odds l.fn.items.items;
}

abbrev pub decreases-loop-left : goal.decreases-loop-left
decreases-loop-left g l = length l.left.items
