use Rattle.std.proofs.Common.{◌∙◌, reverse, subst}
use Rattle.team_run.proofs.Lists.{taken_first}
use Rattle.gate_outside.specs.Houses.{ReturnedDoor, returned_door}
use Rattle.house_loans.proofs.Returned.{ReturnsDoors, doors_one}
use Rattle.house_loans.proofs.doors.put_back_doors.Goals as goal

pub loop-door-preserved : goal.loop-door-preserved
loop-door-preserved g c =
    let at = c.loop-door in
    let left = c.pop.new.self.items in
    let tale_of : g.row.H-Gate.Denot → ReturnedDoor = (λ d. returned_door (g.H.Gate.Door.tale d) (g.H.Gate.Door.faults d)) in
    let old = g.H.Dial.house_tale c.args.house.now in
    let first = taken_first at.doors.items left c.in-Some.door c.in-Some.ensures.items in
    let before = subst (λ l. ReturnsDoors tale_of c.args.doors.items l old (g.H.Dial.house_tale at.house)) first at.invariant.returns in
    record {
      returns = doors_one tale_of c.args.doors.items old c.in-Some.door (reverse left) (g.H.Dial.house_tale at.house) (g.H.Dial.house_tale c.put_back.new.self) before c.put_back.ensures.house;
      dial = c.put_back.ensures.dial ∙ at.invariant.dial;
      dial_faults = c.put_back.ensures.dial_faults ∙ at.invariant.dial_faults;
    }
