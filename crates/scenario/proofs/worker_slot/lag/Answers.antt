use Rattle.std.proofs.Common.{◌≤◌, ◌<◌, length, arith}
use Rattle.std.proofs.lemmas.Grind.{common_steps}
use Rattle.world_law.specs.World.{look_at}
use Rattle.scenario.proofs.Slots.{no_lag, found_lag}
use Rattle.scenario.proofs.worker_slot.lag.Goals as goal

pub returns-then-index-slots : goal.returns-then-index-slots
returns-then-index-slots c guilds ws es is sit =
    let h : length c.args.slots.now ≤ c.args.number = grind (arith, common_steps) in
    no_lag guilds c.args.number (λ w. look_at c.args.guild es 0) c.args.slots.now ws sit c.args.guild es h

pub returns : goal.returns
returns c guilds ws es is sit =
    let h : c.args.number < length c.args.slots.now = grind (arith, common_steps) in
    found_lag guilds c.args.number (λ w. look_at c.args.guild es 0) c.args.slots.now ws sit c.lag.result _ c.args.guild es h c.index-slots-index.is
    (λ w sits. c.lag.ensures guilds w es is sits)
