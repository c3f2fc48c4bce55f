use Rattle.mask_cache.proofs.Stay
use Rattle.mask_cache.proofs.mask_change.others_stay.Goals as goal

pub returns : goal.returns
returns c = Stay.others_stay
