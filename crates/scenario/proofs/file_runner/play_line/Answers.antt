use Rattle.std.proofs.Common.{◌++◌}
use Rattle.std.proofs.lemmas.Result.{err_from_is_err_and}
use Rattle.scenario.specs.Server.{with_line}
use Rattle.scenario.specs.Transcript.{line_text, line_ending}
use Rattle.scenario.proofs.Runs.{fails_ends, text_is, write_ends}
use Rattle.scenario.proofs.file_runner.play_line.Goals as goal

pub returns-in_err-answer-clause-plays : goal.returns-in_err-answer-clause-plays
returns-in_err-answer-clause-plays g c p stands =
    let e = err_from_is_err_and c.from_residual.result c.from_residual.ensures.1 in
    let h = c.in_err-answer.ensures p stands in
    rw e.1 (rw e.2 (fails_ends c.in_err-answer.field-0.0 p c.args.line c.args.number (g.K.Sink.got c.args.sink.now) (g.K.Sink.waits c.args.sink.now) h))

pub returns-in_err-write_answer-clause-plays : goal.returns-in_err-write_answer-clause-plays
returns-in_err-write_answer-clause-plays g c p stands =
    let e = err_from_is_err_and c.from_residual-in_err-write_answer.result c.from_residual-in_err-write_answer.ensures.1 in
    let h = c.in_ok-answer.ensures p stands in
    let front = c.in_err-write_answer.ensures.follows (with_line p c.args.line) h.1.1.0 in
    rw e.1 (rw e.2 (write_ends c.in_err-write_answer.field-0.0 _ _ _ (g.K.Sink.waits c.args.sink.now ++ line_text p c.args.number c.args.line) (line_ending p c.args.line)
    (rw (text_is p c.args.number c.args.line c.in_ok-answer.answer h.0 h.1.0 h.1.1.1.0) at front)))
