-- the lines of the logs so far are added
use Rattle.std.proofs.Common.{◌≡◌, ◌++◌, string_bytes, take, flat_map}
use Rattle.log_summary.specs.Summary.{guild_text}
use Rattle.log_summary.proofs.all_lines.add_guilds.Given as goal

abbrev pub invariant-loop-log : goal.invariant-loop-log
invariant-loop-log g l = string_bytes l.text ≡ string_bytes l.fn.text ++ flat_map guild_text (take l.log-index l.logs)
