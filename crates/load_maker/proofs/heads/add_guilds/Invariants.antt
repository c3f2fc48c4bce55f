use Rattle.std.proofs.Common.{◌≡◌, ◌++◌, map}
use Rattle.std.specs.List.{range_with_len}
use Rattle.load_maker.specs.Script.{guild_line}
use Rattle.load_maker.proofs.heads.add_guilds.Given as goal

abbrev pub invariant-loop-before : goal.invariant-loop-before
invariant-loop-before l = l.lines.items ≡ l.fn.lines.items ++ map guild_line (range_with_len 1 l.before)
