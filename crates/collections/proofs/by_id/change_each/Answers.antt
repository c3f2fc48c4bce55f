use Rattle.std.proofs.Common.{◌≡◌, suc, ◌+◌, ◌<◌, length, arith, get_or}
use Rattle.std.proofs.lemmas.Grind.{common_steps}
use Rattle.collections.proofs.Edits.{changed_front, one_more_changed}
use Rattle.collections.proofs.by_id.change_each.Goals as goal

pub loop-item-preserved : goal.loop-item-preserved
loop-item-preserved g c =
    let f = g.C.Change.changed c.args.change in
    let place = c.loop-item.item-index in
    let lt : place < length c.args.items.now.items = grind (arith, common_steps) in
    let next : place + 1 ≡ suc place = omega arith in
    let now : c.change.new.item ≡ f (get_or (changed_front f place c.args.items.now.items) place c.item-item.result) = rw c.loop-item.invariant at c.change.ensures in
    rw c.loop-item.invariant (one_more_changed f c.args.items.now.items place (place + 1) c.item-item.result _ next lt now)
