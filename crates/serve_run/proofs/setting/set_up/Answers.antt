use Rattle.std.proofs.Common.{sym, subst}
use Rattle.guild_places.specs.Places.{AreDistinct}
use Rattle.serve_stage.specs.Stages.{IsStage}
use Rattle.serve_run.proofs.Ascending.{distinct}
use Rattle.serve_run.proofs.setting.set_up.Goals as goal

pub set_stage-requires-clause-guilds : goal.set_stage-requires-clause-guilds
set_stage-requires-clause-guilds g c = subst AreDistinct (sym c.in-Ok.ensures.ids) (distinct c.args.guilds.now)

pub returns-in-Ok-set_stage-clause-stage : goal.returns-in-Ok-set_stage-clause-stage
returns-in-Ok-set_stage-clause-stage g c =
    subst (λ guilds. IsStage c.args.port c.args.bots.items guilds c.args.lent c.in-Ok-set_stage.stage) c.in-Ok.ensures.ids c.in-Ok-set_stage.ensures.stage
