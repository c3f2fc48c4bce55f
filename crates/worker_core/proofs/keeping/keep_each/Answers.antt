-- One copy more.
use Rattle.std.proofs.Common.{arith}
use Rattle.worker_core.proofs.keeping.keep_each.Goals as goal
use Rattle.worker_core.proofs.Masks.{all_kept, as_many, next_kept, next_of, none_kept}

pub loop-place-init : goal.loop-place-init
loop-place-init c = none_kept c.args.replicas.now c.args.users.now

pub keep_at-requires : goal.keep_at-requires
keep_at-requires c =
    let at = c.loop-place in
    omega (arith, as_many at.replicas c.args.replicas.now at.invariant.same, c.len-place-end.ensures)

pub loop-place-preserved : goal.loop-place-preserved
loop-place-preserved c =
    let at = c.loop-place in
    let so = at.invariant in
    let n = next_of at.replicas so.done so.rest so.whole (omega (arith, so.many, as_many at.replicas c.args.replicas.now so.same, c.len-place-end.ensures)) in
    next_kept c.args.replicas.now at.replicas c.keep_at.new.replicas c.args.users.now at.place so n c.in_ok-keep_at.ensures.ascend
    (c.in_ok-keep_at.ensures.keeps so.done n.back n.item n.whole so.many)

pub returns-clause-bare : goal.returns-clause-bare
returns-clause-bare c = c.loop-place.invariant.same

pub returns-clause-kept : goal.returns-clause-kept
returns-clause-kept c =
    let at = c.loop-place in
    all_kept c.args.replicas.now at.replicas c.args.users.now at.place at.invariant (omega (arith, c.len-place-end.ensures))
