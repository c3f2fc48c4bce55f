use Rattle.std.proofs.Common.{◌≡◌, ◌≤◌, drop, vec_len, vec_capacity}
use Rattle.run_stage.specs.Dealing.{AreFrom}
use Rattle.load_stage.specs.Drafts.{IsClockedClient}
use Rattle.load_stage.proofs.clients.clocked_clients.Given as goal

abbrev pub invariant-loop-number : goal.invariant-loop-number
invariant-loop-number g l = record {
  drafts : l.drafts.items ≡ drop l.number l.fn.drafts.items;
  clocks : l.clocks.items ≡ drop l.number l.fn.clocks.items;
  room : (vec_len l.parts ≡ l.number) × (12 ≤ vec_capacity l.parts);
  parts : AreFrom (IsClockedClient l.fn.drafts.items l.fn.clocks.items) 0 l.number l.parts.items;
}
