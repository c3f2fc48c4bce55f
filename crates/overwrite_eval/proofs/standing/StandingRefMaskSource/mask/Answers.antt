use Rattle.overwrite_eval.proofs.ByMasks.{stands_so}
use Rattle.overwrite_eval.proofs.standing.StandingRefMaskSource.mask.Goals as goal

pub returns : goal.returns
returns c s user stands = stands_so s user c.args.channel c.args.self.now c.mask_in.result stands c.mask_in.ensures.there c.mask_in.ensures.bits
