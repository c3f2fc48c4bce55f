use Rattle.std.proofs.Common.{sym, ap, subst, length, ◌∙◌}
use Rattle.std.proofs.lemmas.Result.{err_from_is_err_and}
use Rattle.world_law.specs.World.{look_at}
use Rattle.worker_core.specs.declared.io.StepFault.{StepFault}
use Rattle.scenario.specs.declared.guild_log.GuildLog.{GuildLog}
use Rattle.scenario.specs.Represents.{SlotFails}
use Rattle.scenario.proofs.Slots.{look_steps}
use Rattle.scenario.proofs.worker_slot.WorkerSlot.look.Goals as goal

pub returns : goal.returns
returns c guilds number w es there is sits =
    look_steps guilds number c.args.self.now _ w sits c.args.guild c.cursor-at.result es _ there c.cursor-at.ensures
    (c.in_ok-out.ensures.steps w (look_at c.args.guild es c.cursor-at.result) sits.worker (c.in_ok-input.ensures es is))
    (rw (ap (λ (l : GuildLog). l.count) (sym is)) (rw (sym c.max.ensures) c.in_ok-put.ensures.ok))

pub returns-in_err-out : goal.returns-in_err-out
returns-in_err-out c guilds number w es there is sits =
    let e = err_from_is_err_and c.from_residual-in_err-out.result c.from_residual-in_err-out.ensures.1 in
    let fails = c.in_err-out.ensures.steps w (look_at c.args.guild es c.cursor-at.result) sits.worker (c.in_ok-input.ensures es is) in
    let at = c.cursor-at.ensures ∙ sits.cursors c.args.guild in
    rw e.1 (subst (λ (f : StepFault). SlotFails w (look_at c.args.guild es (length (w.logs.seen c.args.guild))) f) (sym e.2) (subst (λ k. SlotFails w (look_at c.args.guild es k) c.in_err-out.field-0.0) at fails))
