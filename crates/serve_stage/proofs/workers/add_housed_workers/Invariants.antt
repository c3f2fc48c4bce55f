use Rattle.std.proofs.Common.{◌≡◌, ◌≤◌, drop, length, vec_len, vec_capacity}
use Rattle.run_stage.specs.Dealing.{AreFrom}
use Rattle.serve_stage.specs.Drafts.{IsHousedWorker}
use Rattle.serve_stage.proofs.workers.add_housed_workers.Given as goal

abbrev pub invariant-loop-number : goal.invariant-loop-number
invariant-loop-number g l = record {
  drafts : l.drafts.items ≡ drop l.number l.fn.drafts.items;
  doors : l.doors_left.items ≡ drop l.number l.fn.doors.items;
  clocks : l.clocks_left.items ≡ drop l.number l.fn.clocks.items;
  room : (vec_len l.parts ≡ l.number) × (length l.fn.doors.items ≤ vec_capacity l.parts);
  parts : AreFrom (IsHousedWorker l.fn.drafts.items l.fn.doors.items l.fn.clocks.items) 0 l.number l.parts.items;
}
