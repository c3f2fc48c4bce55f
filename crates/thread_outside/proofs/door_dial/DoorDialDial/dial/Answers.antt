use Rattle.std.proofs.Common.{rules, Some, refl, ◌∙◌}
use Rattle.thread_outside.proofs.CallMoves.{stays}
use Rattle.thread_outside.proofs.door_dial.DoorDialDial.dial.Goals as goal

pub invariant_of-self-2 : goal.invariant_of-self-2
invariant_of-self-2 g c =
    let own = c.self.invariant in
    let now = stays c.self.inside.pass.me.view.client c.put.new.pass.me.view.client (record { caller = c.self.inside.caller; ends = Some c.in_ok-near.far }) c.put.result c.put.ensures.put own.4 refl in
    (search rules, now.0 ∙ own.1, now.1 ∙ own.2, now.2 ∙ own.3, now.3)
