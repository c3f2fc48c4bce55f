use Rattle.two_ends.proofs.Whole.{each_two_ends}
use Rattle.two_ends.proofs.law.two_ends.Goals as goal

pub returns : goal.returns
returns c = record { law = each_two_ends }
