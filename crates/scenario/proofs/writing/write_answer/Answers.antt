use Rattle.std.proofs.Common.{[]}
use Rattle.std.proofs.lemmas.Result.{err_from_is_err_and}
use Rattle.scenario.specs.Transcript.{head_text, outputs_text}
use Rattle.scenario.proofs.Follows.{text_stops, more_stops, both_carried}
use Rattle.scenario.proofs.writing.write_answer.Goals as goal

pub returns-in_err-write_head-clause-follows : goal.returns-in_err-write_head-clause-follows
returns-in_err-write_head-clause-follows g c p stands =
    let e = err_from_is_err_and c.from_residual.result c.from_residual.ensures.1 in
    rw e.1 (text_stops _ _ (g.K.Sink.got c.write_head.new.sink) _ _ [] (head_text c.args.line c.args.answer.now.refusal c.args.answer.now.lagged) (outputs_text p c.args.line c.args.answer.now.outputs.items) c.in_err-write_head.ensures.head)

pub returns-in_err-write_outputs-clause-follows : goal.returns-in_err-write_outputs-clause-follows
returns-in_err-write_outputs-clause-follows g c p stands =
    let e = err_from_is_err_and c.from_residual-in_err-write_outputs.result c.from_residual-in_err-write_outputs.ensures.1 in
    let front = rw c.as_slice.ensures.value at (c.in_err-write_outputs.ensures.follows p stands) in
    rw e.1 (more_stops _ _ _ _ _ _ (head_text c.args.line c.args.answer.now.refusal c.args.answer.now.lagged) (outputs_text p c.args.line c.args.answer.now.outputs.items) c.in_ok-write_head.ensures.head front)

pub returns-clause-follows : goal.returns-clause-follows
returns-clause-follows g c p stands =
    let h = rw c.as_slice.ensures.value at (c.in_ok-write_outputs.ensures.follows p stands) in
    (h.0, both_carried _ _ _ _ _ _ (head_text c.args.line c.args.answer.now.refusal c.args.answer.now.lagged) (outputs_text p c.args.line c.args.answer.now.outputs.items) c.in_ok-write_head.ensures.head h.1)
