use Rattle.std.proofs.Common.{◌≡◌, suc, ◌+◌, ◌-◌, ◌∙◌, arith}
use Rattle.object_json.proofs.Steps.{one_blank}
use Rattle.object_json.proofs.written.blanks.Goals as goal

pub loop-written-preserved : goal.loop-written-preserved
loop-written-preserved c =
    let one : c.args.count - c.loop-written.written ≡ suc (c.args.count - (c.loop-written.written + 1)) = omega arith in
    let due = rw one at c.loop-written.invariant.0 in
    (one_blank c.loop-written.out.tokens c.blank.new.out.tokens _ (c.args.count - (c.loop-written.written + 1)) c.in_ok-blank.ensures.tokens due, c.in_ok-blank.ensures.before ∙ c.loop-written.invariant.1)
