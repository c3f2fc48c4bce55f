use Rattle.client_session.proofs.Standing.{steps_represent}
use Rattle.client_session.proofs.law.steps_represent.Goals as goal

pub returns : goal.returns
returns c = steps_represent
