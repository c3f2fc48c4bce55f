use Rattle.std.proofs.Common.{◌≤◌}
use Rattle.load_client.proofs.Counting.{CountsTo}
use Rattle.load_client.proofs.agreement.agree.Given as goal

-- how many agree so far
abbrev pub invariant-loop-record : goal.invariant-loop-record
invariant-loop-record l = record {
  few : l.count ≤ l.record-index;
  counts : CountsTo (λ guild. guild.now) l.viewer l.cache l.records l.record-index l.count;
}
