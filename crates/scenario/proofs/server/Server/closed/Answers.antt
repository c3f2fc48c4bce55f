use Rattle.std.proofs.Common.{sym, ◌∙◌}
use Rattle.std.proofs.Common.{refl}
use Rattle.world_law.specs.Inputs.{Closed}
use Rattle.edit_text.specs.declared.line.Line.TheVariants as line
use Rattle.scenario.proofs.Servers.{closed_gives, closed_past}
use Rattle.scenario.proofs.server.Server.closed.Goals as goal

pub returns-in_default : goal.returns-in_default
returns-in_default c p stands = closed_past c.args.self.now p stands c.args.conn (sym c.worker_of.ensures ∙ c.in_default.is) c.new.result.items c.new.ensures.items c.args.code

pub returns : goal.returns
returns c p stands = c.give.ensures p (line.Closed c.args.conn c.args.code) (Closed c.args.conn c.args.code) stands refl (closed_gives c.args.self.now p stands.keeps c.args.conn c.in-Some.worker (sym c.worker_of.ensures ∙ c.in-Some.is) c.args.code)
