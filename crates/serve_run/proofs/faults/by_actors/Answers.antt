use Rattle.std.proofs.Common.{◌∙◌, ◌+◌, drop, sym, ap}
use Rattle.std.specs.List.{fold}
use Rattle.std.proofs.lemmas.List.{at_drop_more}
use Rattle.gate_ends.proofs.Added.{drop_end}
use Rattle.serve_run.specs.Faults.{actor_fault, actor_faults, sooner}
use Rattle.serve_run.proofs.faults.by_actors.Goals as goal

pub loop-actor-preserved : goal.loop-actor-preserved
loop-actor-preserved g c =
    let actors = c.args.actors.now in
    let i = c.loop-actor.actor-index in
    let first = c.loop-actor.first in
    ap (λ o. fold sooner o (actor_faults (drop (i + 1) actors))) (c.sooner-first.ensures ∙ ap (sooner first) (c.actor_fault.ensures ∙ ap (λ d. actor_fault d.ending) c.actor-item.is))
    ∙ sym (at_drop_more (λ l. fold sooner first (actor_faults l)) actors i c.actor-item.result c.loop-actor-test.true)
    ∙ c.loop-actor.invariant

pub returns : goal.returns
returns g c =
    sym (ap (λ l. fold sooner c.loop-actor.first (actor_faults l)) (drop_end c.args.actors.now c.loop-actor.actor-index c.loop-actor-test.false)) ∙ c.loop-actor.invariant
