use Rattle.std.proofs.Common.{◌≡◌, ◌≤◌, drop, length, vec_len, vec_capacity}
use Rattle.run_stage.specs.Dealing.{AreFrom}
use Rattle.serve_stage.specs.Drafts.{IsFiledScript}
use Rattle.serve_stage.proofs.scripts.add_filed_scripts.Given as goal

abbrev pub invariant-loop-number : goal.invariant-loop-number
invariant-loop-number g l = record {
  drafts : l.drafts.items ≡ drop l.number l.fn.drafts.items;
  files : l.left.items ≡ drop l.number l.fn.files.items;
  room : (vec_len l.parts ≡ l.number) × (length l.fn.files.items ≤ vec_capacity l.parts);
  parts : AreFrom (IsFiledScript l.fn.drafts.items l.fn.files.items) 0 l.number l.parts.items;
}
