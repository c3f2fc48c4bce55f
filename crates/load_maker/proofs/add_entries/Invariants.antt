-- both guilds' lines so far, and the numbers from which the next ones are drawn
use Rattle.std.proofs.Common.{◌≡◌, ◌+◌, ◌*◌, ◌++◌}
use Rattle.std.specs.Prelude.{flat_map}
use Rattle.std.specs.List.{range_with_len}
use Rattle.load_maker.specs.Draws.{number}
use Rattle.load_maker.specs.Script.{both_lines}
use Rattle.load_maker.proofs.add_entries.Given as goal

abbrev pub invariant-loop-index : goal.invariant-loop-index
invariant-loop-index l = record {
  made : l.lines.items ≡ l.fn.lines.items ++ flat_map (both_lines l.seed l.part) (range_with_len 0 l.index);
  below : l.lower ≡ record { guild = 2 * l.part + 1; number = number l.seed (2 * l.part + 1) l.index };
  above : l.upper ≡ record { guild = 2 * l.part + 2; number = number l.seed (2 * l.part + 2) l.index };
}
