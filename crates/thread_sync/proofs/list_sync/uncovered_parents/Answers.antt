use Rattle.std.proofs.Common.{◌<◌, length, sym, ap, ◌∙◌, arith}
use Rattle.thread_sync.specs.Shown.{Shown}
use Rattle.thread_sync.specs.Seen.{is_among}
use Rattle.thread_sync.specs.Sync.{is_new}
use Rattle.thread_sync.proofs.Steps.{uncovers-one, uncovers-none}
use Rattle.thread_sync.proofs.list_sync.uncovered_parents.Goals as goal
use Rattle.thread_sync.proofs.list_sync.uncovered_parents.Goals.{then-is_uncovered+in_ok-put, else-is_uncovered}

pub loop-thread-preserved : goal.loop-thread-preserved
loop-thread-preserved g c =
    let before : Shown = g.B.Shows.shown c.args.before.now in
    let now : Shown = g.N.Shows.shown c.args.now.now in
    let lt : c.loop-thread.thread-index < length c.args.threads.now = omega arith in
    λ id.
    elim c.if-is_uncovered.branch [
      | then-is_uncovered+in_ok-put w ↦ ap (λ parents. is_among parents id) (w.parents-is ∙ w.in_ok-put.ensures.ok)
          ∙ uncovers-one (is_new before) now.thread c.args.threads.now c.loop-thread.thread-index id c.thread-item.result lt (sym c.thread-item.is) c.loop-thread.parents (c.loop-thread.invariant id) (sym c.is_uncovered.ensures ∙ w.if-is_uncovered.true)
      | else-is_uncovered w ↦ ap (λ parents. is_among parents id) w.parents-is
          ∙ uncovers-none (is_new before) now.thread c.args.threads.now c.loop-thread.thread-index id c.thread-item.result lt (sym c.thread-item.is) c.loop-thread.parents (c.loop-thread.invariant id) (sym c.is_uncovered.ensures ∙ w.if-is_uncovered.false)
    ]
