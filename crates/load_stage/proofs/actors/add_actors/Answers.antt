use Rattle.std.proofs.Common.{refl, ◌∙◌}
use Rattle.run_stage.proofs.Seated.{next_seat}
use Rattle.load_stage.proofs.Ready.{can_act}
use Rattle.load_stage.proofs.actors.add_actors.Goals as goal

pub actor-requires : goal.actor-requires
actor-requires g c =
    can_act c.args.writers.items c.requires.writers c.args.ground.now.posts 0 c.args.takers.0 c.in_ok-even.even.items c.requires.takers.0 c.in_ok-even.ensures.0

pub actor-requires-2 : goal.actor-requires-2
actor-requires-2 g c =
    can_act c.args.writers.items c.requires.writers c.args.ground.now.posts 1 c.args.takers.1 c.in_ok-even.odd.items c.requires.takers.1 c.in_ok-even.ensures.1

pub returns-clause-seats : goal.returns-clause-seats
returns-clause-seats g c =
    let one = next_seat 22 0 22 1 21 c.args.seats.now c.take_next-seat.new.self c.take_next-seat.result c.requires.seats
    c.take_next-seat.ensures.left c.take_next-seat.ensures.keeper refl refl in
    let two = next_seat 22 1 21 2 20 c.take_next-seat.new.self c.take_next-seat-2.new.self c.take_next-seat-2.result one.1
    c.take_next-seat-2.ensures.left c.take_next-seat-2.ensures.keeper refl refl in
    (two.1, c.take_next-seat-2.ensures.keeper ∙ c.take_next-seat.ensures.keeper)
