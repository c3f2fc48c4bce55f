use Rattle.std.proofs.Common.{◌∙◌, ◌+◌, drop, sym, ap}
use Rattle.std.specs.List.{fold}
use Rattle.std.proofs.lemmas.List.{at_drop_more}
use Rattle.gate_ends.proofs.Added.{drop_end}
use Rattle.serve_run.specs.Faults.{worker_fault, worker_faults, sooner}
use Rattle.serve_run.proofs.faults.by_workers.Goals as goal

pub loop-worker-preserved : goal.loop-worker-preserved
loop-worker-preserved c =
    let workers = c.args.workers.now in
    let i = c.loop-worker.worker-index in
    let first = c.loop-worker.first in
    ap (λ o. fold sooner o (worker_faults (drop (i + 1) workers))) (c.sooner-first.ensures ∙ ap (sooner first) (c.worker_fault.ensures ∙ ap (λ d. worker_fault d.ending) c.worker-item.is))
    ∙ sym (at_drop_more (λ l. fold sooner first (worker_faults l)) workers i c.worker-item.result c.loop-worker-test.true)
    ∙ c.loop-worker.invariant

pub returns : goal.returns
returns c =
    sym (ap (λ l. fold sooner c.loop-worker.first (worker_faults l)) (drop_end c.args.workers.now c.loop-worker.worker-index c.loop-worker-test.false)) ∙ c.loop-worker.invariant
