use Rattle.std.proofs.Common.{refl}
use Rattle.overwrite_eval.proofs.sight.may_view.Goals as goal

pub returns : goal.returns
returns c = c.has.ensures.one 10 refl
