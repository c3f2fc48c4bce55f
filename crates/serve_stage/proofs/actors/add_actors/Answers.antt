use Rattle.serve_stage.proofs.Ready.{can_act}
use Rattle.serve_stage.proofs.actors.add_actors.Goals as goal

pub actor-requires : goal.actor-requires
actor-requires g c =
    let takers = c.requires.takers in
    let writers = c.requires.writers in
    can_act takers.0 writers.0 c.args.ground.now.posts 0 c.args.supply.takers.0 c.args.supply.writers.items c.in_ok-even.even.items takers.1.0 writers.1 writers.2 c.in_ok-even.ensures.0

pub actor-requires-2 : goal.actor-requires-2
actor-requires-2 g c =
    let takers = c.requires.takers in
    let writers = c.requires.writers in
    can_act takers.0 writers.0 c.args.ground.now.posts 1 c.args.supply.takers.1 c.args.supply.writers.items c.in_ok-even.odd.items takers.1.1 writers.1 writers.2 c.in_ok-even.ensures.1
