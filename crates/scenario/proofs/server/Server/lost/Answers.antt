use Rattle.std.proofs.Common.{sym, ◌∙◌}
use Rattle.std.proofs.Common.{refl}
use Rattle.world_law.specs.Inputs.{Lost}
use Rattle.edit_text.specs.declared.line.Line.TheVariants as line
use Rattle.scenario.proofs.Servers.{lost_gives, lost_past}
use Rattle.scenario.proofs.server.Server.lost.Goals as goal

pub returns-in_default : goal.returns-in_default
returns-in_default c p stands = lost_past c.args.self.now p stands c.args.conn (sym c.worker_of.ensures ∙ c.in_default.is) c.new.result.items c.new.ensures.items

pub returns : goal.returns
returns c p stands = c.give.ensures p (line.Lost c.args.conn) (Lost c.args.conn) stands refl (lost_gives c.args.self.now p stands.keeps c.args.conn c.in-Some.worker (sym c.worker_of.ensures ∙ c.in-Some.is))
