use Rattle.std.proofs.Common.{sym, ap, ◌∙◌}
use Rattle.overwrite_eval.proofs.ByMasks.{bit_in, seen_by}
use Rattle.overwrite_eval.proofs.by_masks.sees_channel_by.Goals as goal

pub returns-in-Some : goal.returns-in-Some
returns-in-Some g c s user stands =
    c.may_view.ensures
    ∙ sym (seen_by s user c.args.channel c.mask.result (c.mask.ensures s user stands) ∙ ap (λ answer. bit_in answer 10) c.in-Some.is)

pub returns-in-None : goal.returns-in-None
returns-in-None g c s user stands = sym (seen_by s user c.args.channel c.mask.result (c.mask.ensures s user stands) ∙ ap (λ answer. bit_in answer 10) c.in-None.is)
