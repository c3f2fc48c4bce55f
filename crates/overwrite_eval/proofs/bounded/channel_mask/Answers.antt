use Rattle.std.proofs.Common.{sym, ap, ◌∙◌}
use Rattle.std.specs.Option.{option_copied}
use Rattle.overwrite_eval.proofs.Grants.{granted_member}
use Rattle.overwrite_eval.proofs.bounded.channel_mask.Goals as goal

pub returns-in-Some-clause-bits : goal.returns-in-Some-clause-bits
returns-in-Some-clause-bits g c b below =
    c.mask_of.ensures.bits b below ∙ granted_member c.args.guild.now c.args.user c.args.channel c.in-Some.member.now b (sym c.member.ensures ∙ ap option_copied c.in-Some.is)
