-- A log that is taken over whole is given by a record and the entries that follow.
use Rattle.std.proofs.Common.{subst, ◌∙◌}
use Rattle.worker_core.specs.declared.io.Input.{Input as Given}
use Rattle.worker_core.specs.Outputs.{IsGiven}
use Rattle.worker_core.proofs.Moving.{from_base}
use Rattle.worker_core.proofs.worker.Worker.take.Goals as goal

pub returns-in-Rebase : goal.returns-in-Rebase
returns-in-Rebase c i is =
    let whole = subst (λ (given : Given). IsGiven given i) c.in-Rebase.is is in
    let s = from_base c.in-Rebase.guild c.in-Rebase.field-1 whole.0 c.as_slice-in-Rebase.result.now c.in-Rebase.basis whole.1.1.0 (c.as_slice-in-Rebase.ensures ∙ whole.1.1.1) in
    rw whole.1.0 (c.rebase.ensures whole.0 s)
