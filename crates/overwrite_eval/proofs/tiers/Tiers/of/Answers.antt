use Rattle.overwrite_eval.proofs.TierFacts.{unites_none}
use Rattle.overwrite_eval.proofs.tiers.Tiers.of.Goals as goal

pub loop-overwrite-init : goal.loop-overwrite-init
loop-overwrite-init c = record { everyone = unites_none _; held = unites_none _ }
