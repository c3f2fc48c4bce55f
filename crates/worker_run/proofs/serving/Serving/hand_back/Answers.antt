use Rattle.std.proofs.Common.{ap}
use Rattle.worker_run.specs.Moves.{Serving}
use Rattle.worker_run.proofs.Outcomes.{handed_back}
use Rattle.worker_run.proofs.serving.Serving.hand_back.Goals as goal

pub returns-clause-back : goal.returns-clause-back
returns-clause-back g c = handed_back _ _ _ _ (ap (λ (v : Serving). v.links) c.self.view_is) c.give_back.ensures.back
