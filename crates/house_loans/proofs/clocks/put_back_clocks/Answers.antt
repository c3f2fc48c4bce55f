use Rattle.std.proofs.Common.{◌∙◌, reverse, subst}
use Rattle.team_run.proofs.Lists.{taken_first}
use Rattle.gate_outside.specs.Clocks.{ClockTale}
use Rattle.house_loans.proofs.Returned.{ReturnsClocks, clocks_back_one}
use Rattle.house_loans.proofs.clocks.put_back_clocks.Goals as goal

pub loop-clock-preserved : goal.loop-clock-preserved
loop-clock-preserved g c =
    let at = c.loop-clock in
    let left = c.pop.new.self.items in
    let tale_of : g.row.H-Time.Denot → ClockTale = g.H.Time.Clock.tale in
    let old = g.H.Dial.house_tale c.args.house.now in
    let first = taken_first at.clocks.items left c.in-Some.clock c.in-Some.ensures.items in
    let before = subst (λ l. ReturnsClocks tale_of c.args.clocks.items l old (g.H.Dial.house_tale at.house)) first at.invariant.returns in
    record {
      returns = clocks_back_one tale_of c.args.clocks.items old c.in-Some.clock (reverse left) (g.H.Dial.house_tale at.house) (g.H.Dial.house_tale c.put_back.new.self) before c.put_back.ensures.house;
      dial = c.put_back.ensures.dial ∙ at.invariant.dial;
      dial_faults = c.put_back.ensures.dial_faults ∙ at.invariant.dial_faults;
    }
