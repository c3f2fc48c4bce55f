use Rattle.std.proofs.Common.{◌≡◌, ◌+◌, ◌-◌, ap, subst, ◌∙◌, arith}
use Rattle.stop_flag.specs.Flags.{new_seat}
use Rattle.run_stage.specs.Seats.{HasSeats}
use Rattle.run_stage.proofs.Numbered.{added, next_at}
use Rattle.run_stage.proofs.Seated.{next_seat}
use Rattle.load_stage.specs.Clients.{client_with}
use Rattle.load_stage.specs.Drafts.{IsClientDraft}
use Rattle.load_stage.proofs.clients.add_clients.Goals as goal

pub loop-number-preserved : goal.loop-number-preserved
loop-number-preserved g c =
    let n = c.loop-number.number in
    let kept = c.loop-number.invariant in
    let later : 9 + (n + 1) ≡ 9 + n + 1 = omega arith in
    let fewer : 13 - (n + 1) + 1 ≡ 13 - n = omega arith in
    let dial = next_at n c.args.dials.now.items c.loop-number.dials.items c.take_next-dial.new.items.items c.take_next-dial.result kept.dials c.take_next-dial.ensures in
    let seat = next_seat 22 (9 + n) (13 - n) (9 + (n + 1)) (13 - (n + 1)) c.loop-number.seats c.take_next-seat.new.self c.take_next-seat.result
    kept.seats c.take_next-seat.ensures.left c.take_next-seat.ensures.keeper later fewer in
    let seat_is : c.take_next-seat.result ≡ new_seat c.args.seats.now.keeper.flag (9 + n) = seat.0 ∙ ap (λ k. new_seat k.flag (9 + n)) kept.keeper in
    record {
      dials = dial.1;
      seats = seat.1;
      keeper = c.take_next-seat.ensures.keeper ∙ kept.keeper;
      drafts = added (IsClientDraft c.args.seats.now.keeper.flag c.args.dials.now.items) n c.loop-number.drafts.items c.push_back.new.self.items _
          kept.drafts c.in_ok-push_back.ensures.items (record {
            client_is = c.in_ok-share.ensures ∙ ap (λ s. client_with s n) seat_is;
            dial_is = dial.0;
          });
    }

pub returns-clause-seats : goal.returns-clause-seats
returns-clause-seats g c =
    let twelve : c.loop-number.number ≡ 12 = omega arith in
    (subst (λ k. HasSeats 22 (9 + k) (13 - k) c.loop-number.seats) twelve c.loop-number.invariant.seats, c.loop-number.invariant.keeper)
