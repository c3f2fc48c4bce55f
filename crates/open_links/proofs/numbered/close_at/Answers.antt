use Rattle.std.proofs.Common.{[], ◌∷◌}
use Rattle.std.proofs.lemmas.Result.{on_ok_weaker, on_err_weaker, IfOk-weaker}
use Rattle.gate_outside.specs.declared.sending.Sending.TheVariants as sending
use Rattle.open_links.specs.Courses.{Gives}
use Rattle.open_links.proofs.Listed.{follows_at, failed_at}
use Rattle.open_links.proofs.numbered.close_at.Goals as goal

pub returns-clause-ok : goal.returns-clause-ok
returns-clause-ok g c =
    on_ok_weaker c.close.result
    (follows_at c.args.links.now.items c.args.place c.args.conn c.index_mut.result.now c.close.new.self (Gives (sending.Close c.args.code) ∷ []) c.requires.ascend c.requires.stands c.index_mut.ensures.value)
    c.close.ensures.ok

pub returns-clause-err : goal.returns-clause-err
returns-clause-err g c =
    on_err_weaker c.close.result
    (follows_at c.args.links.now.items c.args.place c.args.conn c.index_mut.result.now c.close.new.self [] c.requires.ascend c.requires.stands c.index_mut.ensures.value)
    c.close.ensures.err

pub returns-clause-failed : goal.returns-clause-failed
returns-clause-failed g c =
    IfOk-weaker c.close.result _ _
    (λ closed f e. failed_at c.args.links.now.items c.args.place c.index_mut.result.now c.close.new.self c.requires.stands.within c.index_mut.ensures.value (f e))
    c.close.ensures.failed
