use Rattle.edit_apply.proofs.Well.{stays}
use Rattle.edit_apply.proofs.stays_well.Goals as goal

pub returns : goal.returns
returns c = stays
