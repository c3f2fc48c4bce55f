use Rattle.std.proofs.Common.{sym, ◌∙◌, arith}
use Rattle.perm_bits.specs.Permissions.{view_channel}
use Rattle.overwrite_eval.proofs.Grants.{granted_user}
use Rattle.overwrite_eval.proofs.bounded.sees_channel.Goals as goal

pub returns-clause-seen : goal.returns-clause-seen
returns-clause-seen g c =
    c.may_view.ensures ∙ c.channel_mask.ensures.bits view_channel (omega arith) ∙ sym (granted_user c.args.guild.now c.args.user c.args.channel view_channel)
