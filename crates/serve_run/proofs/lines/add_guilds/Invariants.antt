use Rattle.std.proofs.Common.{◌≡◌, ◌++◌, take}
use Rattle.std.specs.Prelude.{string_bytes}
use Rattle.serve_run.specs.Lines.{guild_lines}
use Rattle.serve_run.proofs.lines.add_guilds.Given as goal

abbrev pub invariant-loop-guild : goal.invariant-loop-guild
invariant-loop-guild g l = string_bytes l.text ≡ string_bytes l.fn.text ++ guild_lines l.logs (take l.guild-index l.guilds)
