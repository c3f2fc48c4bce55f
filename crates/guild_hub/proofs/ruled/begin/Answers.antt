use Rattle.std.proofs.Common.{◌∙◌, List, ap, fold}
use Rattle.guild_hub.specs.declared.shown.Op.{Op}
use Rattle.guild_hub.specs.Trims.{after_op, spine_of}
use Rattle.guild_hub.proofs.Turning.{shows, same_spine}
use Rattle.guild_hub.proofs.ruled.begin.Goals as goal

pub publish_as-requires : goal.publish_as-requires
publish_as-requires g c next is =
    let now = c.args.writer.desk.shown.value in
    shows _ _ now next (same_spine now next (is ∙ ap (λ (l : List Op). fold after_op (spine_of now) l) c.requires))
