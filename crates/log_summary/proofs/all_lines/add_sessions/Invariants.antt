-- with the lines of the clients that are left, all lines are added
use Rattle.std.proofs.Common.{◌≡◌, ◌++◌, string_bytes, drop}
use Rattle.log_summary.specs.Summary.{sessions_text}
use Rattle.log_summary.proofs.all_lines.add_sessions.Given as goal

abbrev pub invariant-loop-number : goal.invariant-loop-number
invariant-loop-number l = string_bytes l.text ++ sessions_text l.number (drop l.number l.agrees) ≡ string_bytes l.fn.text ++ sessions_text 0 l.agrees
