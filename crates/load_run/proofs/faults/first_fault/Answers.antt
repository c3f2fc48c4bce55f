use Rattle.std.proofs.Common.{◌∙◌, ◌+◌, map, drop, sym, ap}
use Rattle.std.specs.List.{fold}
use Rattle.std.proofs.lemmas.List.{at_drop_more}
use Rattle.gate_ends.proofs.Added.{drop_end}
use Rattle.load_run.specs.Faults.{fault_of, sooner}
use Rattle.load_run.proofs.faults.first_fault.Goals as goal

pub loop-done-preserved : goal.loop-done-preserved
loop-done-preserved g c =
    let dones = c.args.dones.now in
    let i = c.loop-done.done-index in
    let first = c.loop-done.first in
    ap (λ o. fold sooner o (map fault_of (drop (i + 1) dones))) (c.sooner-first.ensures ∙ ap (sooner first) (c.fault_of.ensures ∙ ap fault_of c.done-item.is))
    ∙ sym (at_drop_more (λ l. fold sooner first (map fault_of l)) dones i c.done-item.result c.loop-done-test.true)
    ∙ c.loop-done.invariant

pub returns : goal.returns
returns g c =
    sym (ap (λ l. fold sooner c.loop-done.first (map fault_of l)) (drop_end c.args.dones.now c.loop-done.done-index c.loop-done-test.false)) ∙ c.loop-done.invariant
