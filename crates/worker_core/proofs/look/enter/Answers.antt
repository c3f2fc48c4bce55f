-- A refused entry tells nothing.
use Rattle.std.proofs.Common.{◌≡◌, true, false, Option, Some, None, refl, sym, ap, ◌∙◌}
use Rattle.std.specs.Option.{is_none}
use Rattle.std.specs.Result.{is_err}
use Rattle.guild_model.specs.declared.verdict.Verdict.{Verdict}
use Rattle.guild_model.specs.Record.{Record}
use Rattle.guild_model.specs.Tests.{outcome}
use Rattle.edit_apply.specs.Edits.{verdict, accepts}
use Rattle.worker_core.proofs.Looking.{none_told}
use Rattle.guild_replica.specs.Replicas.{GuildCopy}
use Rattle.worker_core.proofs.look.enter.Goals as goal

refused_by : (v : Option Verdict) → is_err (outcome v) ≡ true → is_none v ≡ false
refused_by None err = sym err
refused_by (Some v) err = refl

pub returns-then-is_err-clause-told : goal.returns-then-is_err-clause-told
returns-then-is_err-clause-told c =
    let g = c.args.replica.now.guild in
    let e = c.args.entry.now in
    none_told g e c.args.sessions.now (refused_by (verdict g e) (ap (λ (s : Record). is_err (outcome (verdict s e))) (sym c.guild.ensures) ∙ (ap is_err (sym c.judge.ensures) ∙ (sym c.is_err.ensures.value ∙ c.if-is_err.true)))) c.args.out.now.items

accepted_by : (v : Option Verdict) → is_err (outcome v) ≡ false → is_none v ≡ true
accepted_by None fine = refl
accepted_by (Some v) fine = absurd (cc)

pub returns-clause-told : goal.returns-clause-told
returns-clause-told c =
    let g = c.args.replica.now.guild in
    let e = c.args.entry.now in
    let accepted : accepts g e ≡ true = accepted_by (verdict g e) (ap (λ (s : Record). is_err (outcome (verdict s e))) (sym c.guild.ensures) ∙ (ap is_err (sym c.judge.ensures) ∙ (sym c.is_err.ensures.value ∙ c.if-is_err.false))) in
    c.tell_each.ensures g e (c.in_ok-update-2.ensures g c.in_ok-update.ensures (ap (λ (r : GuildCopy). r.guild) c.in_ok-make.ensures) accepted)
