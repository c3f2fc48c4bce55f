use Rattle.std.proofs.Common.{sym, ◌∙◌, refl}
use Rattle.overwrite_eval.proofs.ByMasks.{thread_seen_by}
use Rattle.overwrite_eval.proofs.by_masks.sees_thread_by.Goals as goal

pub returns-in-Some : goal.returns-in-Some
returns-in-Some g c s stands =
    rw (c.shows_thread.ensures, c.contains.ensures, c.user.view_is)
    (sym (thread_seen_by s c.args.user c.args.thread.now c.mask.result (c.mask.ensures s c.args.user stands) ∙ rw (c.in-Some.is) refl))

pub returns-in-None : goal.returns-in-None
returns-in-None g c s stands =
    sym (thread_seen_by s c.args.user c.args.thread.now c.mask.result (c.mask.ensures s c.args.user stands) ∙ rw (c.in-None.is) refl)
