use Rattle.worker_run.proofs.Readers.{entered_only, on_err, rebase_seen}
use Rattle.worker_run.proofs.looks.rebase.Goals as goal

pub returns-in_err-base-clause-err : goal.returns-in_err-base-clause-err
returns-in_err-base-clause-err c =
    on_err c.from_residual.result (entered_only c.args.reader.now c.rebase.new.self c.requires c.in_err-base.ensures.err.0)

pub returns-clause-ok : goal.returns-clause-ok
returns-clause-ok c =
    rebase_seen c.args.reader.now c.rebase.new.self c.in_ok-base.field-0 c.from_vec.result c.from_vec.ensures c.requires c.in_ok-base.ensures.ok
