use Rattle.std.proofs.Common.{◌≡◌, ◌≤◌, drop, vec_len, vec_capacity}
use Rattle.run_stage.specs.Dealing.{AreFrom}
use Rattle.load_stage.specs.Drafts.{IsClockedWorker}
use Rattle.load_stage.proofs.workers.clocked_workers.Given as goal

abbrev pub invariant-loop-number : goal.invariant-loop-number
invariant-loop-number g l = record {
  drafts : l.drafts.items ≡ drop l.number l.fn.drafts.items;
  clocks : l.clocks.items ≡ drop l.number l.fn.clocks.items;
  room : (vec_len l.parts ≡ l.number) × (3 ≤ vec_capacity l.parts);
  parts : AreFrom (IsClockedWorker l.fn.drafts.items l.fn.clocks.items) 0 l.number l.parts.items;
}
