use Rattle.std.proofs.Common.{[]}
use Rattle.std.proofs.lemmas.Result.{err_from_is_err_and}
use Rattle.scenario.specs.Texts.{written_line, refused_text}
use Rattle.scenario.specs.Transcript.{wish_refusal}
use Rattle.scenario.proofs.Follows.{text_stops, more_stops, both_carried}
use Rattle.scenario.proofs.writing.write_followed.Goals as goal

pub returns-in_err-write_output-clause-follows : goal.returns-in_err-write_output-clause-follows
returns-in_err-write_output-clause-follows g c p stands =
    let e = err_from_is_err_and c.from_residual.result c.from_residual.ensures.1 in
    rw e.1 (text_stops _ _ (g.K.Sink.got c.write_output.new.sink) _ _ [] (written_line c.args.output.now) (refused_text c.args.line (wish_refusal p c.args.output.now)) c.in_err-write_output.ensures.err)

pub returns-in_err-write_refusal-clause-follows : goal.returns-in_err-write_refusal-clause-follows
returns-in_err-write_refusal-clause-follows g c p stands =
    let e = err_from_is_err_and c.from_residual-in_err-write_refusal.result c.from_residual-in_err-write_refusal.ensures.1 in
    let front = rw (c.in_ok-refusal.ensures.answer p stands) at c.in_err-write_refusal.ensures.err in
    rw e.1 (more_stops _ _ _ _ _ _ (written_line c.args.output.now) (refused_text c.args.line (wish_refusal p c.args.output.now)) c.in_ok-write_output.ensures.ok front)

pub returns-clause-follows : goal.returns-clause-follows
returns-clause-follows g c p stands =
    let whole = rw (c.in_ok-refusal.ensures.answer p stands) at c.in_ok-write_refusal.ensures.ok in
    (c.in_ok-refusal.ensures.follows p stands, both_carried _ _ _ _ _ _ (written_line c.args.output.now) (refused_text c.args.line (wish_refusal p c.args.output.now)) c.in_ok-write_output.ensures.ok whole)
