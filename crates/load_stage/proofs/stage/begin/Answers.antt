use Rattle.std.proofs.Common.{◌≡◌, ◌<◌, length, refl, ◌∙◌, arith}
use Rattle.run_stage.proofs.Seated.{next_seat}
use Rattle.load_stage.proofs.Drafted.{all_can_begin, none_has_failed, three_workers, twelve_clients}
use Rattle.load_stage.proofs.Staged.{staged}
use Rattle.load_stage.proofs.stage.begin.Goals as goal

pub add_clocked-requires-clause-workers : goal.add_clocked-requires-clause-workers
add_clocked-requires-clause-workers g c =
    let draft = c.args.draft in
    let seed = c.requires.draft.0 in
    let is = c.requires.draft.1 in
    let two : length draft.ground.posts ≡ 2 = is.two in
    let some : 0 < length draft.ground.posts = omega arith in (
      three_workers draft.ground.posts draft.seats.keeper.flag seed draft.parts is.parts_are,
      all_can_begin draft.ground.posts draft.seats.keeper.flag seed draft.parts is.parts_are some,
    )

pub add_clocked-requires-clause-clients : goal.add_clocked-requires-clause-clients
add_clocked-requires-clause-clients g c =
    let draft = c.args.draft in
    let seed = c.requires.draft.0 in
    let is = c.requires.draft.1 in (
      twelve_clients draft.ground.posts draft.seats.keeper.flag seed draft.parts is.parts_are,
      none_has_failed draft.ground.posts draft.seats.keeper.flag seed draft.parts is.parts_are,
    )

pub returns : goal.returns
returns g c seed is =
    let draft = c.args.draft in
    let clocks = c.args.clocks.items in
    let left = c.take_next-seat.new.self in
    let seat = next_seat 22 21 1 22 0 draft.seats left c.take_next-seat.result is.seats_are c.take_next-seat.ensures.left c.take_next-seat.ensures.keeper refl refl in
    rw (c.into_parts-posts.ensures.1, c.into_parts-posts.ensures.2)
    (staged seed clocks draft c.into_keeper-keeper.result c.take_next-seat.result c.add_clocked.new.self.workers c.add_clocked.new.self.clients
    is (c.into_keeper-keeper.ensures ∙ c.take_next-seat.ensures.keeper) seat.0 c.add_clocked.ensures.workers c.add_clocked.ensures.clients)
