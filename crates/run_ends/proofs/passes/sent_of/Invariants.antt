use Rattle.std.proofs.Common.{◌≤◌, List, length, map, All}
use Rattle.edit_post.specs.Post.{PostId, Taker}
use Rattle.load_settle.specs.Passes.{HasEndedAt, IsTakenWhole}
use Rattle.run_ends.specs.Senders.{HaveEnded, AreTakenWhole}
use Rattle.run_ends.proofs.passes.sent_of.Given as goal

abbrev pub invariant-loop-passes : goal.invariant-loop-passes
invariant-loop-passes l = record {
  few : All (λ passes. length passes.items ≤ 256) l.senders.items;
  ended : (posts : List PostId) → All (HaveEnded posts) (map (λ passes. passes.items) l.fn.senders.items) → All (HaveEnded posts) (map (λ passes. passes.items) l.senders.items) × All (HasEndedAt posts) l.sent.items;
  whole : (taken : List Taker) → All (IsTakenWhole taken) l.sent.items → All (AreTakenWhole taken) (map (λ passes. passes.items) l.senders.items) → All (AreTakenWhole taken) (map (λ passes. passes.items) l.fn.senders.items);
}

abbrev pub decreases-loop-passes : goal.decreases-loop-passes
decreases-loop-passes l = length l.senders.items
