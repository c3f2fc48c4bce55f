use Rattle.stop_flag.proofs.Stopping.{none_found}
use Rattle.stop_flag.proofs.laws.nobody_stopped.Goals as goal

pub returns : goal.returns
returns c = none_found
