use Rattle.std.proofs.Common.{◌≡◌, ◌++◌, length}
use Rattle.load_stage.specs.Turns.{in_turn}
use Rattle.load_stage.proofs.turns.in_turn.Given as goal

abbrev pub invariant-loop-item : goal.invariant-loop-item
invariant-loop-item g l = record {
  so_far : l.items.items ++ in_turn l.firsts.items l.seconds.items l.thirds.items ≡ in_turn l.fn.first.items l.fn.second.items l.fn.third.items;
  second : length l.seconds.items ≡ length l.firsts.items;
  third : length l.thirds.items ≡ length l.firsts.items;
}

abbrev pub decreases-loop-item : goal.decreases-loop-item
decreases-loop-item g l = length l.firsts.items
