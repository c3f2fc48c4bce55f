use Rattle.std.proofs.Common.{◌∙◌, ◌+◌, drop, sym, ap}
use Rattle.std.specs.List.{fold}
use Rattle.std.proofs.lemmas.List.{at_drop_more}
use Rattle.gate_ends.proofs.Added.{drop_end}
use Rattle.serve_run.specs.Faults.{script_fault, script_faults, sooner}
use Rattle.serve_run.proofs.faults.by_scripts.Goals as goal

pub loop-script-preserved : goal.loop-script-preserved
loop-script-preserved c =
    let scripts = c.args.scripts.now in
    let i = c.loop-script.script-index in
    let first = c.loop-script.first in
    let file = c.loop-script.file in record {
      file = ap (λ n. n + 1) c.loop-script.invariant.file;
      first =
          ap (λ o. fold sooner o (script_faults (file + 1 + 1) (drop (i + 1) scripts))) (c.sooner-first.ensures ∙ ap (sooner first) (c.script_fault.ensures ∙ ap (λ e. script_fault (file + 1) e.ending) c.script-item.is))
          ∙ sym (at_drop_more (λ l. fold sooner first (script_faults (file + 1) l)) scripts i c.script-item.result c.loop-script-test.true)
          ∙ c.loop-script.invariant.first;
    }

pub returns : goal.returns
returns c =
    sym (ap (λ l. fold sooner c.loop-script.first (script_faults (c.loop-script.file + 1) l)) (drop_end c.args.scripts.now c.loop-script.script-index c.loop-script-test.false)) ∙ c.loop-script.invariant.first
