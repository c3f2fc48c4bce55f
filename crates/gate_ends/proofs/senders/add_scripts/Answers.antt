use Rattle.std.proofs.Common.{rules, ◌∙◌, ◌++◌, ◌∷◌, [], ap}
use Rattle.std.proofs.lemmas.List.{nil_from_length}
use Rattle.gate_ends.specs.Done.{HasSentAll}
use Rattle.gate_ends.proofs.Popped.{passed_none, passed_one, passed_all, flat_one}
use Rattle.gate_ends.proofs.senders.add_scripts.Goals as goal

pub loop-end-init : goal.loop-end-init
loop-end-init g c = passed_none HasSentAll (λ e. e.passes ∷ []) c.args.scripts.items c.args.passes.now.items c.reverse.new.self.items c.reverse.ensures.items

pub loop-end-preserved : goal.loop-end-preserved
loop-end-preserved g c =
    passed_one HasSentAll (λ e. e.passes ∷ []) c.args.scripts.items c.args.passes.now.items c.loop-end.scripts.items c.pop.new.self.items c.loop-end.passes.items c.push.new.self.items c.in-Some.end
    c.loop-end.invariant c.in-Some.ensures.items c.in_ok-into_passes.ensures.0 (c.in_ok-push.ensures.items ∙ ap (λ x. c.loop-end.passes.items ++ x ∷ []) c.in_ok-into_passes.ensures.1)

pub returns : goal.returns
returns g c =
    let all = passed_all HasSentAll (λ e. e.passes ∷ []) c.args.scripts.items c.args.passes.now.items c.loop-end.scripts.items c.loop-end.passes.items c.loop-end.invariant (nil_from_length _ (search rules)) in
    (all.0, all.1 ∙ ap (λ l. c.args.passes.now.items ++ l) (flat_one (λ e. e.passes) c.args.scripts.items))
