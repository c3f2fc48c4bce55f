use Rattle.std.proofs.Common.{sym, ◌∙◌}
use Rattle.perm_bits.proofs.BitSets.{has_bit-none}
use Rattle.overwrite_eval.proofs.Grants.{granted_missing}
use Rattle.overwrite_eval.proofs.standing.StandingRef.mask.Goals as goal

pub returns-in-None : goal.returns-in-None
returns-in-None c b below = has_bit-none b ∙ sym (granted_missing c.args.self.now c.args.channel b (c.mask_in.ensures.none c.in-None.is))
