use Rattle.std.proofs.Common.{sym, ◌∙◌}
use Rattle.std.proofs.Common.{refl}
use Rattle.world_law.specs.Inputs.{Frame}
use Rattle.edit_text.specs.declared.line.Line.TheVariants as line
use Rattle.scenario.proofs.Servers.{frame_gives, frame_past}
use Rattle.scenario.proofs.server.Server.frame.Goals as goal

pub returns-in_default : goal.returns-in_default
returns-in_default c p stands = frame_past c.args.self.now p stands c.args.conn (sym c.worker_of.ensures ∙ c.in_default.is) c.new.result.items c.new.ensures.items c.args.text

pub returns : goal.returns
returns c p stands = c.give.ensures p (line.Frame c.args.conn c.args.text) (Frame c.args.conn c.args.text) stands refl (frame_gives c.args.self.now p stands.keeps c.args.conn c.in-Some.worker (sym c.worker_of.ensures ∙ c.in-Some.is) c.args.text)
