use Rattle.std.proofs.Common.{◌∙◌}
use Rattle.overwrite_eval.proofs.Grants.{grants_from_base}
use Rattle.overwrite_eval.proofs.masks.part_mask.Goals as goal

pub returns : goal.returns
returns c b below =
    c.part_mask_from.ensures b below ∙ grants_from_base c.args.guild c.args.owner c.args.roles.now c.args.member.now c.args.channel.now.overwrites c.part_base-base.result c.part_base-base.ensures b below
