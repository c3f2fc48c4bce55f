use Rattle.std.proofs.Common.{refl}
use Rattle.world_law.specs.Inputs.{Tick}
use Rattle.edit_text.specs.declared.line.Line.TheVariants as line
use Rattle.scenario.proofs.Servers.{tick_gives}
use Rattle.scenario.proofs.server.Server.tick.Goals as goal

pub returns : goal.returns
returns c p stands = c.give.ensures p (line.Tick c.args.worker c.args.now) (Tick c.args.now) stands refl (tick_gives p c.args.worker c.args.now)
