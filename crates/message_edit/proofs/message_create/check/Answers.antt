use Rattle.std.proofs.Common.{Err, sym, ap, ◌∙◌}
use Rattle.std.proofs.lemmas.Result.{err_from_is_err_and}
use Rattle.message_edit.specs.Channels.{takes_no_words}
use Rattle.message_edit.proofs.Kept.{stopped}
use Rattle.message_edit.proofs.message_create.check.Goals as goal

pub returns-in_err-takes_words : goal.returns-in_err-takes_words
returns-in_err-takes_words c =
    let p = err_from_is_err_and c.from_residual.result c.from_residual.ensures.1 in
    let stop = stopped (takes_no_words c.args.guild.now c.args.edit.now.channel) _ c.in_err-takes_words.field-0.0 (sym c.takes_words.ensures ∙ c.in_err-takes_words.was) in
    p.1 ∙ (ap Err p.2 ∙ sym stop)
