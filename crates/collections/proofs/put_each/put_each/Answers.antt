use Rattle.std.proofs.Common.{◌≡◌, ◌∷◌, ap, ◌∙◌, sym, length, arith}
use Rattle.std.specs.Vec.Iter.{into_iter_items}
use Rattle.collections.specs.ById.{put_all}
use Rattle.collections.proofs.Ids.{IsById-put}
use Rattle.collections.proofs.put_each.put_each.Goals as goal

pub loop-item-preserved : goal.loop-item-preserved
loop-item-preserved g c =
    let key = g.T.Keyed.key in
    let at = c.loop-item in
    let steps : into_iter_items at.item-iterator ≡ c.in-Some.item ∷ into_iter_items c.next.new.self = c.in-Some.ensures.steps.0 in
    let short = ap length steps in
    let was = at.invariant in
    let gone = c.in-Some.ensures.steps.1 in
    let fewer = c.put_within.ensures.len in
    let room = c.put_within.ensures.capacity in (
      ap (λ xs. put_all key xs (into_iter_items c.next.new.self)) c.put_within.ensures.set ∙ (sym (ap (put_all key at.items.items) steps) ∙ at.invariant.0),
      rw c.put_within.ensures.set (IsById-put key c.in-Some.item at.items.items at.invariant.1),
      omega (arith, was.2),
      omega (arith, was.3),
    )
