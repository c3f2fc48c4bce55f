use Rattle.std.proofs.Common.{◌≡◌, ◌+◌, ◌-◌, refl, ap, subst, ◌∙◌, arith}
use Rattle.stop_flag.specs.Flags.{new_seat}
use Rattle.run_stage.specs.Dealing.{AreFrom}
use Rattle.run_stage.specs.Posts.{ArePassesOf}
use Rattle.run_stage.specs.Seats.{HasSeats}
use Rattle.run_stage.proofs.Numbered.{added, first_of}
use Rattle.run_stage.proofs.Seated.{next_seat}
use Rattle.load_stage.specs.Parts.{IsScript}
use Rattle.load_stage.proofs.Ready.{can_send}
use Rattle.load_stage.proofs.scripts.add_scripts.Goals as goal

pub script-requires-clause-passes : goal.script-requires-clause-passes
script-requires-clause-passes g c =
    let posts = c.args.ground.now.posts in
    let n = c.loop-number.number in
    let fewer : 7 - (n + 1) + 1 ≡ 7 - n = omega arith in
    let first = first_of (ArePassesOf posts) n (7 - n) (n + 1) (7 - (n + 1)) c.loop-number.passes.items c.take_next-its_passes.new.items.items c.take_next-its_passes.result
    c.loop-number.invariant.passes c.take_next-its_passes.ensures refl fewer in
    can_send posts n c.take_next-its_passes.result.items c.requires.some first.0

pub loop-number-preserved : goal.loop-number-preserved
loop-number-preserved g c =
    let posts = c.args.ground.now.posts in
    let n = c.loop-number.number in
    let kept = c.loop-number.invariant in
    let fewer : 7 - (n + 1) + 1 ≡ 7 - n = omega arith in
    let later : 2 + (n + 1) ≡ 2 + n + 1 = omega arith in
    let fewer_seats : 20 - (n + 1) + 1 ≡ 20 - n = omega arith in
    let first = first_of (ArePassesOf posts) n (7 - n) (n + 1) (7 - (n + 1)) c.loop-number.passes.items c.take_next-its_passes.new.items.items c.take_next-its_passes.result
    kept.passes c.take_next-its_passes.ensures refl fewer in
    let seat = next_seat 22 (2 + n) (20 - n) (2 + (n + 1)) (20 - (n + 1)) c.loop-number.seats c.take_next-seat.new.self c.take_next-seat.result
    kept.seats c.take_next-seat.ensures.left c.take_next-seat.ensures.keeper later fewer_seats in
    let made = c.in_ok-script.ensures in
    record {
      passes = first.1;
      seats = seat.1;
      keeper = c.take_next-seat.ensures.keeper ∙ kept.keeper;
      parts = added (IsScript posts c.args.seats.now.keeper.flag c.args.seed) n c.loop-number.parts.items c.push.new.self.items c.in_ok-script.field-0
          kept.parts c.in_ok-push.ensures.items (record {
            posts_are = made.posts;
            passes_are = ap (λ v. v.items) made.own.0 ∙ first.0;
            index_is = made.index;
            lines_are = made.lines;
            seat_is = made.own.1 ∙ seat.0 ∙ ap (λ k. new_seat k.flag (2 + n)) kept.keeper;
          });
    }

pub returns-clause-passes : goal.returns-clause-passes
returns-clause-passes g c =
    let four : c.loop-number.number ≡ 4 = omega arith in
    subst (λ k. AreFrom (ArePassesOf c.args.ground.now.posts) k (7 - k) c.loop-number.passes.items) four c.loop-number.invariant.passes

pub returns-clause-seats : goal.returns-clause-seats
returns-clause-seats g c =
    let four : c.loop-number.number ≡ 4 = omega arith in
    (subst (λ k. HasSeats 22 (2 + k) (20 - k) c.loop-number.seats) four c.loop-number.invariant.seats, c.loop-number.invariant.keeper)
