use Rattle.std.proofs.Common.{◌≡◌, map}
use Rattle.std.specs.List.{range_with_len}
use Rattle.load_maker.specs.Edits.{guild_id}
use Rattle.load_client.proofs.name_goal.guilds.Given as goal

abbrev pub invariant-loop-before : goal.invariant-loop-before
invariant-loop-before l = l.guilds ≡ map guild_id (range_with_len 1 l.before)
