use Rattle.std.proofs.Common.{◌≡◌, ◌≤◌, ◌++◌, List, length, All}
use Rattle.edit_post.specs.Post.{PostId, Sender, Taker}
use Rattle.load_settle.specs.Passes.{HasEndedAt, IsTakenWhole}
use Rattle.run_ends.specs.Senders.{HaveEnded}
use Rattle.run_ends.proofs.Ending.{WholeFrom}
use Rattle.run_ends.proofs.passes.add_passes.Given as goal

abbrev pub invariant-loop-pass : goal.invariant-loop-pass
invariant-loop-pass l = record {
  few : length l.passes.items ≤ 256;
  parts : (done : List Sender) × (l.fn.passes.items ≡ l.passes.items ++ done);
  ended : (posts : List PostId) → HaveEnded posts l.fn.passes.items → All (HasEndedAt posts) l.fn.sent.items → All (HasEndedAt posts) l.sent.items;
  whole : (taken : List Taker) → All (IsTakenWhole taken) l.sent.items → All (IsTakenWhole taken) l.fn.sent.items × WholeFrom taken l.fn.passes.items (length l.passes.items);
}

abbrev pub decreases-loop-pass : goal.decreases-loop-pass
decreases-loop-pass l = length l.passes.items
