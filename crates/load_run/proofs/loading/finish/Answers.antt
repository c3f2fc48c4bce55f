use Rattle.std.proofs.Common.{◌++◌, Err, inr, ap, sym, ◌∙◌, subst, string_bytes}
use Rattle.std.proofs.lemmas.Result.{err_from_is_err_and}
use Rattle.gate_outside.specs.Streams.{AppendsFront}
use Rattle.load_run.specs.Causes.{Loads, HasLoadCause}
use Rattle.load_run.proofs.Out.{loads_front, sink_cause}
use Rattle.load_run.proofs.loading.finish.Goals as goal

pub returns-in_err-write_out-clause-loads : goal.returns-in_err-write_out-clause-loads
returns-in_err-write_out-clause-loads g c =
    let got0 = g.K.Sink.got c.args.sink.now in
    let got1 = g.K.Sink.got c.write_out.new.sink in
    let waits = g.K.Sink.waits c.args.sink.now in
    let text = c.in_ok-text.text in
    let e = err_from_is_err_and c.from_residual-in_err-write_out.result c.from_residual-in_err-write_out.ensures.1 in
    let front = subst (λ l. AppendsFront got0 got1 (waits ++ l)) c.as_str.ensures.value c.in_err-write_out.ensures.err in
    subst (Loads c.args.seed got0 got1 waits) (sym (e.1 ∙ ap Err e.2)) (loads_front c.args.seed got0 got1 waits c.in_err-write_out.field-0.0 (inr (string_bytes text, (c.in_ok-text.ensures, front))))

pub returns-in_err-write_out-clause-cause : goal.returns-in_err-write_out-clause-cause
returns-in_err-write_out-clause-cause g c = λ team.
    let e = err_from_is_err_and c.from_residual-in_err-write_out.result c.from_residual-in_err-write_out.ensures.1 in
    subst (HasLoadCause c.args.seed team team (g.K.Sink.faults c.args.sink.now) (g.K.Sink.faults c.write_out.new.sink)) (sym (e.1 ∙ ap Err e.2))
    (sink_cause c.args.seed team (g.K.Sink.faults c.args.sink.now) (g.K.Sink.faults c.write_out.new.sink) c.in_err-write_out.field-0.0 c.write_out.result c.in_err-write_out.was c.write_out.ensures.cause)
