use Rattle.std.proofs.Common.{◌∙◌, ap, subst}
use Rattle.std.proofs.lemmas.Result.{on_ok_weaker, on_err_weaker}
use Rattle.guild_hub.specs.Logs.{Published, GoesOn}
use Rattle.load_settle.proofs.Ends.{ends_told, stays_told}
use Rattle.load_settle.proofs.reading.read_to_the_end.Goals as goal

pub look_to_the_end-requires : goal.look_to_the_end-requires
look_to_the_end-requires g c =
    let note = subst (λ (l : Published). GoesOn l c.learn.new.self.log) c.tell.ensures c.learn.ensures.told in
    ap (λ (l : Published). l.sealed) (note.final c.requires.1) ∙ c.requires.1

pub returns-clause-ok : goal.returns-clause-ok
returns-clause-ok g c =
    let note = subst (λ (l : Published). GoesOn l c.learn.new.self.log) c.tell.ensures c.learn.ensures.told in
    on_ok_weaker c.look_to_the_end.result (λ ends. ends_told c.args.reader.now c.learn.new.self c.look_to_the_end.new.reader c.args.log.now c.requires.1 note c.learn.ensures.later c.learn.ensures.same ends) c.look_to_the_end.ensures.ok

pub returns-clause-err : goal.returns-clause-err
returns-clause-err g c =
    on_err_weaker c.look_to_the_end.result (λ stays. stays_told c.args.reader.now c.learn.new.self c.look_to_the_end.new.reader c.learn.ensures.later c.learn.ensures.same stays) c.look_to_the_end.ensures.err
