use Rattle.std.proofs.Common.{◌≤◌, ◌<◌, length, arith}
use Rattle.std.proofs.lemmas.Grind.{common_steps}
use Rattle.world_law.specs.World.{look_at}
use Rattle.scenario.proofs.Slots.{stay_step, found_step}
use Rattle.scenario.proofs.worker_slot.look.Goals as goal

pub returns-then-index-len : goal.returns-then-index-len
returns-then-index-len c guilds ws es there is sit =
    let h : length c.args.slots.now.items ≤ c.args.number = grind (arith, common_steps) in
    stay_step guilds c.args.number (λ w. look_at c.args.guild es (length (w.logs.seen c.args.guild))) c.args.slots.now.items ws sit c.new.result.items c.new.ensures.items h

pub returns : goal.returns
returns c guilds ws es there is sit =
    let h : c.args.number < length c.args.slots.now.items = grind (arith, common_steps) in
    found_step guilds c.args.number (λ w. look_at c.args.guild es (length (w.logs.seen c.args.guild))) c.args.slots.now.items ws sit (λ out. out.items)
    c.look.result c.index_mut.result.now c.look.new.self h c.index_mut.ensures.value
    (λ w sits. c.look.ensures guilds c.args.number w es there is sits)
