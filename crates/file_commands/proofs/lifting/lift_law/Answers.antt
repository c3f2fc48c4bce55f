use Rattle.file_commands.proofs.Meaning.{means_the_same}
use Rattle.file_commands.proofs.lifting.lift_law.Goals as goal

pub returns : goal.returns
returns c = means_the_same
