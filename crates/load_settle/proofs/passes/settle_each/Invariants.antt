use Rattle.std.proofs.Common.{◌≡◌, length, All}
use Rattle.load_settle.specs.Passes.{HasEndedAt, IsTakenWhole}
use Rattle.load_settle.proofs.passes.settle_each.Given as goal

abbrev pub invariant-loop-place : goal.invariant-loop-place
invariant-loop-place g l = record {
  same : l.taken ≡ l.fn.taken;
  ended : All (HasEndedAt l.posts) l.sent.items;
  whole : All (IsTakenWhole l.fn.taken) l.sent.items → All (IsTakenWhole l.fn.taken) l.fn.sent.items;
}

abbrev pub decreases-loop-place : goal.decreases-loop-place
decreases-loop-place g l = length l.sent.items
