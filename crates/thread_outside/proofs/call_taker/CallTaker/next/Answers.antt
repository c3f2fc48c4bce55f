use Rattle.std.proofs.Common.{rules, ◌≡◌, List, Some, None, ap, sym, subst, ◌∙◌}
use Rattle.thread_outside.specs.CallLists.{CallState, ends_in}
use Rattle.thread_outside.specs.DialledDoors.{TakerState, after_call_of, GoesOn, TakesEnds}
use Rattle.thread_outside.proofs.CallSteps.{goes_on, no_ends, takes_one}
use Rattle.thread_outside.proofs.call_taker.CallTaker.next.Goals as goal

pub returns-in-Some-into_ends : goal.returns-in-Some-into_ends
returns-in-Some-into_ends g c =
    let last = c.loop.invariant in
    let now : c.take.new.self ≡ after_call_of c.loop.self c.in-Some-take.call = search rules in
    let given : c.in-Some-take.call.ends ≡ Some c.in-Some-into_ends.ends = search rules in
    subst (λ (t : TakerState). TakesEnds c.args.self.now t (Some c.in-Some-into_ends.ends)) (sym now)
    (takes_one c.args.self.now c.loop.self c.in-Some-take.call c.in-Some-into_ends.ends last.queue last.dials last.on last.ends last.empty_takes given)

pub loop-preserved : goal.loop-preserved
loop-preserved g c =
    let last = c.loop.invariant in
    let now : c.take.new.self ≡ after_call_of c.loop.self c.in-Some-take.call = search rules in
    let none : c.in-Some-take.call.ends ≡ None = search rules in record {
      queue = ap (λ (t : TakerState). t.queue) now ∙ last.queue;
      dials = ap (λ (t : TakerState). t.dials) now ∙ last.dials;
      on = subst (λ (l : List CallState). GoesOn c.args.self.now.taken l) (sym (ap (λ (t : TakerState). t.taken) now)) (goes_on c.args.self.now.taken c.loop.self.taken c.in-Some-take.call last.on);
      ends = ap (λ (t : TakerState). ends_in t.taken) now ∙ no_ends c.loop.self.taken c.in-Some-take.call none ∙ last.ends;
      empty_takes = ap (λ (t : TakerState). t.empty_takes) now ∙ last.empty_takes;
    }
