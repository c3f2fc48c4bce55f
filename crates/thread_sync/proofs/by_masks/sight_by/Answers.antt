use Rattle.std.proofs.Common.{None, Some, refl, subst, ap, ◌∙◌}
use Rattle.collections.proofs.Finds.{key-found}
use Rattle.guild_model.specs.Record.{member_id}
use Rattle.overwrite_eval.specs.MaskIn.{IsMaskIn}
use Rattle.thread_sync.proofs.ByMasks.{sight_from, sight_by_answer}
use Rattle.thread_sync.proofs.by_masks.sight_by.Goals as goal

pub returns-in-Some : goal.returns-in-Some
returns-in-Some g c s me stands found =
    let is = subst (IsMaskIn s c.args.user c.args.channel) c.in-Some.is (c.mask.ensures s c.args.user stands) in
    ap (λ views. sight_from c.args.user c.args.channel views c.has-in-Some.result) (c.has.ensures.one 10 refl)
    ∙ (ap (sight_from c.args.user c.args.channel _) (c.has-in-Some.ensures.one 34 refl)
    ∙ sight_by_answer s me c.args.user c.args.channel found (key-found member_id c.args.user s.members me found) (Some _) is)

pub returns-in-None : goal.returns-in-None
returns-in-None g c s me stands found =
    let is = subst (IsMaskIn s c.args.user c.args.channel) c.in-None.is (c.mask.ensures s c.args.user stands) in
    sight_by_answer s me c.args.user c.args.channel found (key-found member_id c.args.user s.members me found) None is
