use Rattle.std.proofs.Common.{[]}
use Rattle.thread_outside.specs.DialledDoors.{new_dialled}
use Rattle.load_stage.proofs.Dialled.{has_doors, three_pushed}
use Rattle.load_stage.proofs.doors.add_doors.Goals as goal

pub returns : goal.returns
returns g c =
    let one = c.in_ok-first.ensures in
    let two = c.in_ok-second.ensures in
    let three = c.in_ok-third.ensures in
    has_doors one.0 two.0 three.0 c.add_door-3.new.doors.items c.in_ok-first.first.items c.in_ok-second.second.items c.in_ok-third.third.items c.in_ok-dials.dials.items
    (three_pushed c.args.doors.now.items c.add_door.new.doors.items c.add_door-2.new.doors.items c.add_door-3.new.doors.items
    (new_dialled one.0 4 []) (new_dialled two.0 4 []) (new_dialled three.0 4 []) c.requires one.1 two.1 three.1)
    one.2 two.2 three.2 c.in_ok-dials.ensures
