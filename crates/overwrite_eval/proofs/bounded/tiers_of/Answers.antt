use Rattle.std.proofs.Common.{arith}
use Rattle.overwrite_eval.proofs.TierFacts.{unites_none}
use Rattle.overwrite_eval.proofs.bounded.tiers_of.Goals as goal

pub loop-overwrite-init : goal.loop-overwrite-init
loop-overwrite-init g c = record { everyone = unites_none _; held = unites_none _; cost = omega arith }
