use Rattle.thread_outside.specs.DialledDoors.{new_door_dial}
use Rattle.run_stage.proofs.Numbered.{from_zero}
use Rattle.load_stage.proofs.doors.open_door.Goals as goal

pub returns-clause-dials : goal.returns-clause-dials
returns-clause-dials g c =
    let made = c.in_ok-door.ensures.dials in
    from_zero (new_door_dial c.in_ok-door.door.calls.queue) 4 c.in_ok-door.dials.items made.0 made.1
