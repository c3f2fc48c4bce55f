use Rattle.std.proofs.Common.{◌∙◌, reverse, subst}
use Rattle.team_run.proofs.Lists.{taken_first}
use Rattle.gate_outside.specs.Houses.{ReturnedSource, returned_source}
use Rattle.house_loans.proofs.Returned.{ReturnsSources, sources_one}
use Rattle.house_loans.proofs.sources.put_back_sources.Goals as goal

pub loop-source-preserved : goal.loop-source-preserved
loop-source-preserved g c =
    let at = c.loop-source in
    let left = c.pop.new.self.items in
    let tale_of : g.row.H-In.Denot → ReturnedSource = (λ s. returned_source (g.H.In.Source.left s) (g.H.In.Source.faults s)) in
    let old = g.H.Dial.house_tale c.args.house.now in
    let first = taken_first at.sources.items left c.in-Some.source c.in-Some.ensures.items in
    let before = subst (λ l. ReturnsSources tale_of c.args.sources.items l old (g.H.Dial.house_tale at.house)) first at.invariant.returns in
    record {
      returns = sources_one tale_of c.args.sources.items old c.in-Some.source (reverse left) (g.H.Dial.house_tale at.house) (g.H.Dial.house_tale c.put_back.new.self) before c.put_back.ensures.house;
      dial = c.put_back.ensures.dial ∙ at.invariant.dial;
      dial_faults = c.put_back.ensures.dial_faults ∙ at.invariant.dial_faults;
    }
