use Rattle.std.proofs.Common.{◌≡◌, map}
use Rattle.std.specs.List.{range_with_len}
use Rattle.load_stage.specs.Bots.{load_bot}
use Rattle.load_stage.proofs.bots.bots.Given as goal

abbrev pub invariant-loop-before : goal.invariant-loop-before
invariant-loop-before l = l.bots.items ≡ map load_bot (range_with_len 1 l.before)
