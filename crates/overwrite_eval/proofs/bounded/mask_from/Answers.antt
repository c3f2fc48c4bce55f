use Rattle.std.proofs.Common.{sym, ap, ◌∙◌}
use Rattle.std.specs.Option.{option_copied}
use Rattle.guild_model.specs.Record.{Record}
use Rattle.overwrite_eval.proofs.Grants.{grants_from}
use Rattle.overwrite_eval.proofs.bounded.mask_from.Goals as goal

pub returns-in-Some-Some-clause-bits : goal.returns-in-Some-Some-clause-bits
returns-in-Some-Some-clause-bits g c b below =
    c.member_mask.ensures.bits b below ∙ grants_from c.args.guild.now c.args.user c.args.channel _ c.in-Some-Some.member.now c.in-Some-Some.channel.now c.args.base
    (ap (λ (r : Record). r.id) (sym c.guild.view_is)) (sym c.member.ensures ∙ ap option_copied c.in-Some-Some.is-0)
    (sym c.channel.ensures ∙ ap option_copied c.in-Some-Some.is-1) c.requires b below
