use Rattle.std.proofs.lemmas.Result.{err_from_is_err_and, on_ok_weaker, on_err_weaker}
use Rattle.gate_outside.proofs.Fronts.{part_front, carries_part, carries_on, all_sent}
use Rattle.file_commands.proofs.Usage.{front_out}
use Rattle.file_commands.proofs.refusing.write_usage.Goals as goal

pub returns-clause-ok : goal.returns-clause-ok
returns-clause-ok g c =
    let carried = rw c.as_bytes.ensures.value at c.in_ok-write_all.ensures.ok in
    on_ok_weaker c.flush.result (λ h. all_sent _ _ _ _ _ carried h) c.flush.ensures.ok

pub returns-clause-err : goal.returns-clause-err
returns-clause-err g c =
    let carried = rw c.as_bytes.ensures.value at c.in_ok-write_all.ensures.ok in
    on_err_weaker c.flush.result (λ h. carries_part _ _ _ _ (carries_on _ _ _ _ _ _ carried h)) c.flush.ensures.err

pub returns-in_err-write_all-clause-err : goal.returns-in_err-write_all-clause-err
returns-in_err-write_all-clause-err g c =
    let e = err_from_is_err_and c.from_residual.result c.from_residual.ensures.1 in
    let front = rw c.as_bytes.ensures.value at (part_front _ _ _ _ _ c.in_err-write_all.ensures.err) in
    rw e.1 (front_out _ _ _ _ front)
