use Rattle.std.proofs.Common.{subst}
use Rattle.guild_hub.specs.Looks.{Lags}
use Rattle.guild_hub.specs.declared.reader.LookRefused.{LookRefused}
use Rattle.load_settle.proofs.Ends.{rebases_whole}
use Rattle.load_settle.proofs.reading.look_to_the_end.Goals as goal

pub returns-in_ok-rebased-in-Err-Lagged-clause-ok : goal.returns-in_ok-rebased-in-Err-Lagged-clause-ok
returns-in_ok-rebased-in-Err-Lagged-clause-ok c =
    let lagged = subst (λ (e : LookRefused). Lags c.args.reader.now e c.look.new.self) c.in-Err-Lagged.field-0-is c.in-Err-Lagged.ensures.err in
    rebases_whole c.args.reader.now c.look.new.self c.rebase.new.self c.in-Err-Lagged.field-0-0 c.in-Err-Lagged.field-0-1 c.in_ok-rebased-in-Err-Lagged.rebased c.requires c.in-Err-Lagged.ensures.load lagged c.in_ok-rebased-in-Err-Lagged.ensures.ok
