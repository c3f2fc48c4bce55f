use Rattle.std.proofs.Common.{◌∙◌}
use Rattle.stop_flag.specs.Flags.{new_seat}
use Rattle.run_stage.proofs.Numbered.{each_is, from_zero}
use Rattle.run_stage.proofs.seats.Seats.all.Goals as goal

pub returns : goal.returns
returns c =
    let made = c.in_ok-keeper.ensures in
    let flag = c.in_ok-keeper.keeper.flag in
    let count = c.args.count in
    record {
      keeper_is = made.keeper;
      left_are = each_is (new_seat flag) 0 count c.from.result.items (c.from.ensures.0 ∙ from_zero (new_seat flag) count c.in_ok-keeper.seats.items made.seats.0 made.seats.1);
    }
