use Rattle.edit_apply.proofs.Well.{keeps}
use Rattle.edit_apply.proofs.keeps_well.Goals as goal

pub returns : goal.returns
returns c = keeps
