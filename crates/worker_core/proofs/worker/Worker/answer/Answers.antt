-- Where no session has the number nothing is asked.
use Rattle.std.proofs.Common.{sym, ◌∙◌}
use Rattle.worker_core.proofs.worker.Worker.answer.Goals as goal
use Rattle.worker_core.proofs.Wanting.{nobody_asks}

pub returns-in-None : goal.returns-in-None
returns-in-None c = nobody_asks c.args.self.now c.args.session c.args.ask.now c.args.out.now.items (sym c.viewer_of.ensures ∙ c.in-None.is)

pub answer_to-requires : goal.answer_to-requires
answer_to-requires c = sym c.viewer_of.ensures ∙ c.in-Some.is
