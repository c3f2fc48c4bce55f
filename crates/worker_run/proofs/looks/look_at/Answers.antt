use Rattle.std.proofs.Common.{ℕ, subst}
use Rattle.std.proofs.lemmas.Result.{IfOk-weaker}
use Rattle.guild_hub.specs.Sights.{Seeing}
use Rattle.guild_hub.specs.Looks.{Lags}
use Rattle.guild_hub.specs.declared.reader.LookRefused.{LookRefused}
use Rattle.worker_run.specs.Looking.{Looks}
use Rattle.worker_run.proofs.Readers.{read_nothing, look_seen, lagged_then}
use Rattle.worker_run.proofs.looks.look_at.Goals as goal

pub returns-in-Ok-clause-ok : goal.returns-in-Ok-clause-ok
returns-in-Ok-clause-ok c =
    look_seen c.args.reader.now c.look.new.self c.in-Ok.field-0 c.from_vec.result _ c.from_vec.ensures c.requires c.in-Ok.ensures.ok

pub returns-in-Err-Lagged-clause-ok : goal.returns-in-Err-Lagged-clause-ok
returns-in-Err-Lagged-clause-ok c =
    let lags = subst (λ (e : LookRefused). Lags c.args.reader.now.1 e c.look.new.self) c.in-Err-Lagged.field-0-is c.in-Err-Lagged.ensures.err in
    let mid : ℕ × Seeing = (c.args.reader.now.0, c.look.new.self) in
    IfOk-weaker c.rebase.result (λ seen. Looks seen mid c.rebase.new.reader) (λ seen. Looks seen c.args.reader.now c.rebase.new.reader)
    (λ seen looks. lagged_then seen c.args.reader.now c.look.new.self c.rebase.new.reader c.requires lags.0 lags.2 looks) c.rebase.ensures.ok

pub returns-in-Err-Memory-clause-err : goal.returns-in-Err-Memory-clause-err
returns-in-Err-Memory-clause-err c =
    let failed = subst (λ (e : LookRefused). Lags c.args.reader.now.1 e c.look.new.self) c.in-Err-Memory.field-0-is c.in-Err-Memory.ensures.err in
    read_nothing c.args.reader.now c.look.new.self c.requires failed.0 failed.2
