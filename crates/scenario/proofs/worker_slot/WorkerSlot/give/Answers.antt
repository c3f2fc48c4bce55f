use Rattle.std.proofs.Common.{refl}
use Rattle.worker_core.specs.Represents.{StepsTo, Fails}
use Rattle.scenario.specs.Represents.{SlotSteps, SlotFails}
use Rattle.scenario.proofs.Slots.{by_result, give_sits, calm_given}
use Rattle.scenario.proofs.worker_slot.WorkerSlot.give.Goals as goal

pub returns : goal.returns
returns c guilds number w i sits is =
    let calm = calm_given c.args.input i is in
    by_result c.step.result (λ out. StepsTo w i c.step.new.self out.items)
    (λ out. SlotSteps guilds number w i (record c.args.self.now { worker = c.step.new.self }) out.items)
    (Fails w i) (SlotFails w i)
    (λ out steps. (give_sits guilds number c.args.self.now (record c.args.self.now { worker = c.step.new.self }) w sits i calm.1 steps.0 refl, steps.1))
    (λ fault fails. fails) (c.step.ensures.steps w i sits.worker calm.0)
