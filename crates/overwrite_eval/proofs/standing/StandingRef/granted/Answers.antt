use Rattle.std.proofs.Common.{◌<◌, ◌^◌, ◌∙◌}
use Rattle.guild_model.specs.Sight.{granted}
use Rattle.overwrite_eval.proofs.Granted.{one_below, every_granted}
use Rattle.overwrite_eval.proofs.standing.StandingRef.granted.Goals as goal

pub returns-clause-every : goal.returns-clause-every
returns-clause-every c =
    let fits : c.args.permissions < 2 ^ 53 = rw (← c.mask-number.ensures.value) c.mask-number.ensures.within in
    every_granted (granted c.args.self.now c.args.channel) c.mask.result c.args.permissions c.has.result fits c.mask.ensures c.has.ensures.every

pub returns-clause-one : goal.returns-clause-one
returns-clause-one c b is =
    let fits : c.args.permissions < 2 ^ 53 = rw (← c.mask-number.ensures.value) c.mask-number.ensures.within in
    c.has.ensures.one b is ∙ c.mask.ensures b (one_below c.args.permissions b fits is)
