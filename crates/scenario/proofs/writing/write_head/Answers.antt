use Rattle.std.proofs.Common.{[]}
use Rattle.std.proofs.lemmas.Result.{err_from_is_err_and}
use Rattle.scenario.specs.Texts.{refused_text, lagged_text}
use Rattle.scenario.proofs.Follows.{text_stops, more_stops, both_carried}
use Rattle.scenario.proofs.writing.write_head.Goals as goal

pub returns-in_err-write_refusal-clause-head : goal.returns-in_err-write_refusal-clause-head
returns-in_err-write_refusal-clause-head g c =
    let e = err_from_is_err_and c.from_residual.result c.from_residual.ensures.1 in
    rw e.1 (text_stops _ _ (g.K.Sink.got c.write_refusal.new.sink) _ _ [] (refused_text c.args.line c.args.answer.now.refusal) (lagged_text c.args.answer.now.lagged) c.in_err-write_refusal.ensures.err)

pub returns-in_err-write_lagged-clause-head : goal.returns-in_err-write_lagged-clause-head
returns-in_err-write_lagged-clause-head g c =
    let e = err_from_is_err_and c.from_residual-in_err-write_lagged.result c.from_residual-in_err-write_lagged.ensures.1 in
    rw e.1 (more_stops _ _ _ _ _ _ (refused_text c.args.line c.args.answer.now.refusal) (lagged_text c.args.answer.now.lagged) c.in_ok-write_refusal.ensures.ok c.in_err-write_lagged.ensures.err)

pub returns-clause-head : goal.returns-clause-head
returns-clause-head g c =
    both_carried _ _ _ _ _ _ (refused_text c.args.line c.args.answer.now.refusal) (lagged_text c.args.answer.now.lagged) c.in_ok-write_refusal.ensures.ok c.in_ok-write_lagged.ensures.ok
