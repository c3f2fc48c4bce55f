-- the entries of the logs so far, each of which has fewer than 2^64
use Rattle.std.proofs.Common.{◌≡◌, ◌*◌, ◌≤◌, take}
use Rattle.log_summary.specs.Summary.{entries_of}
use Rattle.log_summary.proofs.all_lines.entries_of.Given as goal

abbrev pub invariant-loop-log : goal.invariant-loop-log
invariant-loop-log g l = record {
  sum : l.entries ≡ entries_of (take l.log-index l.logs);
  small : l.entries ≤ 18446744073709551615 * l.log-index;
}
