use Rattle.client_session.proofs.Standing.{new_represents}
use Rattle.client_session.proofs.law.new_represents.Goals as goal

pub returns : goal.returns
returns c = new_represents
