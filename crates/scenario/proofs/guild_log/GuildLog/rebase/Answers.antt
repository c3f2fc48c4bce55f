use Rattle.std.proofs.Common.{take, drop, refl, sym, ap, ◌∙◌}
use Rattle.std.proofs.Math.Seq.{take-length, drop-length}
use Rattle.edit_apply.specs.Edits.{state}
use Rattle.scenario.specs.declared.guild_log.GuildLog.{GuildLog}
use Rattle.scenario.proofs.guild_log.GuildLog.rebase.Goals as goal

pub returns : goal.returns
returns c es is =
    let count = ap (λ (l : GuildLog). l.count) is in (
      es,
      (
        refl,
        (
          c.in_ok-record.ensures ∙ (ap (λ (l : GuildLog). l.guild) is ∙ (ap (state c.args.guild) (sym (take-length es)) ∙ ap (λ n. state c.args.guild (take n es)) (sym count))),
          c.new.ensures ∙ (sym (drop-length es) ∙ ap (λ n. drop n es) (sym count)),
        ),
      ),
    )
