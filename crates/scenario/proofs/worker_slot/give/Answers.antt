use Rattle.std.proofs.Common.{◌≤◌, ◌<◌, length, arith}
use Rattle.std.proofs.lemmas.Grind.{common_steps}
use Rattle.scenario.proofs.Slots.{stay_step, found_step}
use Rattle.scenario.proofs.worker_slot.give.Goals as goal

pub returns-then-index-len : goal.returns-then-index-len
returns-then-index-len c guilds ws i sit is =
    let h : length c.args.slots.now.items ≤ c.args.number = grind (arith, common_steps) in
    stay_step guilds c.args.number (λ w. i) c.args.slots.now.items ws sit c.new.result.items c.new.ensures.items h

pub returns : goal.returns
returns c guilds ws i sit is =
    let h : c.args.number < length c.args.slots.now.items = grind (arith, common_steps) in
    found_step guilds c.args.number (λ w. i) c.args.slots.now.items ws sit (λ out. out.items) c.give.result c.index_mut.result.now c.give.new.self h c.index_mut.ensures.value
    (λ w sits. c.give.ensures guilds c.args.number w i sits is)
