use Rattle.std.proofs.Common.{[], ◌∷◌}
use Rattle.std.proofs.lemmas.Result.{on_ok_weaker, on_err_weaker}
use Rattle.gate_outside.specs.declared.sending.Sending.TheVariants as sending
use Rattle.open_links.specs.Courses.{Gives}
use Rattle.open_links.proofs.Listed.{follows_at}
use Rattle.open_links.proofs.numbered.send_at.Goals as goal

pub returns-clause-ok : goal.returns-clause-ok
returns-clause-ok g c =
    on_ok_weaker c.send.result
    (follows_at c.args.links.now.items c.args.place c.args.conn c.index_mut.result.now c.send.new.self (Gives (sending.Text c.args.text.now) ∷ []) c.requires.ascend c.requires.stands c.index_mut.ensures.value)
    c.send.ensures.ok

pub returns-clause-err : goal.returns-clause-err
returns-clause-err g c =
    on_err_weaker c.send.result
    (follows_at c.args.links.now.items c.args.place c.args.conn c.index_mut.result.now c.send.new.self [] c.requires.ascend c.requires.stands c.index_mut.ensures.value)
    c.send.ensures.err
