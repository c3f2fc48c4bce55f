use Rattle.std.proofs.Common.{rules, ◌≡◌, ◌∙◌, [], append-nil}
use Rattle.std.proofs.lemmas.List.{nil_from_length}
use Rattle.run_ends.proofs.Turns.{one_of_first}
use Rattle.run_ends.proofs.weaving.weave.Goals as goal

pub loop-item-preserved : goal.loop-item-preserved
loop-item-preserved g c =
    let none : c.pop-in-Some.new.self.items ≡ [] = nil_from_length _ (search rules) in
    one_of_first c.loop-item.all.items c.push.new.self.items c.loop-item.first.items c.pop.new.self.items c.loop-item.second.items c.pop-in-Some.new.self.items _ c.in-Some.item
    c.in_ok-push.ensures.items c.in-Some.ensures.items (c.in_default-pop.ensures.items ∙ append-nil _ ∙ none) none c.loop-item.invariant
