use Rattle.std.proofs.Common.{◌≡◌, ◌+◌, ◌-◌}
use Rattle.run_stage.specs.Dealing.{AreFrom}
use Rattle.run_stage.specs.Posts.{ArePassesOf}
use Rattle.run_stage.specs.Seats.{HasSeats}
use Rattle.load_stage.specs.Parts.{IsScript}
use Rattle.load_stage.proofs.scripts.add_scripts.Given as goal

abbrev pub invariant-loop-number : goal.invariant-loop-number
invariant-loop-number g l = record {
  passes : AreFrom (ArePassesOf l.ground.posts) l.number (7 - l.number) l.passes.items;
  seats : HasSeats 22 (2 + l.number) (20 - l.number) l.seats;
  keeper : l.seats.keeper ≡ l.fn.seats.keeper;
  parts : AreFrom (IsScript l.ground.posts l.fn.seats.keeper.flag l.seed) 0 l.number l.parts.items;
}
