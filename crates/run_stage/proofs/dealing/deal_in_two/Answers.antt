use Rattle.run_stage.proofs.Dealt.{round}
use Rattle.run_stage.proofs.dealing.deal_in_two.Goals as goal

pub loop-left-preserved : goal.loop-left-preserved
loop-left-preserved g c =
    let both = round c.args.items.items c.loop-left.left.items c.move_next.new.items.items c.move_next-in-loop-left.new.items.items
    c.loop-left.first.items c.move_next.new.to.items c.loop-left.second.items c.move_next-in-loop-left.new.to.items
    c.in_ok-move_next.ensures c.in_ok-move_next-2.ensures c.loop-left.invariant.first c.loop-left.invariant.second in
    record { first = both.0; second = both.1 }
