use Rattle.std.proofs.Common.{◌≡◌, ◌+◌, ◌-◌, ◌<◌, ap, subst, ◌∙◌, arith}
use Rattle.stop_flag.specs.Flags.{new_seat}
use Rattle.run_stage.specs.Posts.{ArePassesOf}
use Rattle.run_stage.specs.Seats.{HasSeats}
use Rattle.run_stage.proofs.Numbered.{added, first_of, next_at}
use Rattle.run_stage.proofs.Seated.{next_seat, seat_left}
use Rattle.load_stage.specs.Drafts.{IsWorkerDraft}
use Rattle.load_stage.proofs.workers.add_workers.Goals as goal

pub take_next-seat-requires : goal.take_next-seat-requires
take_next-seat-requires g c =
    let n = c.loop-number.number in
    let some : 0 < 16 - n = omega arith in
    seat_left 22 (6 + n) (16 - n) c.loop-number.seats c.loop-number.invariant.seats some

pub loop-number-preserved : goal.loop-number-preserved
loop-number-preserved g c =
    let posts = c.args.ground.now.posts in
    let n = c.loop-number.number in
    let kept = c.loop-number.invariant in
    let later : 4 + (n + 1) ≡ 4 + n + 1 = omega arith in
    let fewer : 3 - (n + 1) + 1 ≡ 3 - n = omega arith in
    let later_seat : 6 + (n + 1) ≡ 6 + n + 1 = omega arith in
    let fewer_seats : 16 - (n + 1) + 1 ≡ 16 - n = omega arith in
    let door = next_at n c.args.served.now.doors.items c.loop-number.served.doors.items c.take_next-door.new.items.items c.take_next-door.result kept.doors c.take_next-door.ensures in
    let readers = next_at n c.args.served.now.readers.items c.loop-number.served.readers.items c.take_next-its_readers.new.items.items c.take_next-its_readers.result kept.readers c.take_next-its_readers.ensures in
    let first = first_of (ArePassesOf posts) (4 + n) (3 - n) (4 + (n + 1)) (3 - (n + 1)) c.loop-number.passes.items c.take_next-its_passes.new.items.items c.take_next-its_passes.result
    kept.passes c.take_next-its_passes.ensures later fewer in
    let seat = next_seat 22 (6 + n) (16 - n) (6 + (n + 1)) (16 - (n + 1)) c.loop-number.seats c.take_next-seat.new.self c.take_next-seat.result
    kept.seats c.take_next-seat.ensures.left c.take_next-seat.ensures.keeper later_seat fewer_seats in
    record {
      doors = door.1;
      readers = readers.1;
      passes = first.1;
      seats = seat.1;
      keeper = c.take_next-seat.ensures.keeper ∙ kept.keeper;
      drafts = added (IsWorkerDraft posts c.args.seats.now.keeper.flag c.args.served.now.doors.items c.args.served.now.readers.items) n c.loop-number.drafts.items c.push_back.new.self.items _
          kept.drafts c.in_ok-push_back.ensures.items (record {
            posts_are = c.in_ok-share.ensures.posts;
            passes_are = first.0;
            readers_are = readers.0;
            worker_is = c.in_ok-share.ensures.worker;
            door_is = door.0;
            seat_is = seat.0 ∙ ap (λ k. new_seat k.flag (6 + n)) kept.keeper;
          });
    }

pub returns-clause-seats : goal.returns-clause-seats
returns-clause-seats g c =
    let three : c.loop-number.number ≡ 3 = omega arith in
    (subst (λ k. HasSeats 22 (6 + k) (16 - k) c.loop-number.seats) three c.loop-number.invariant.seats, c.loop-number.invariant.keeper)
