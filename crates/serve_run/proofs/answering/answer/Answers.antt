use Rattle.std.proofs.Common.{◌∙◌, length, None, Some, Err, ap, sym, subst}
use Rattle.std.specs.Option.{unwrap_or}
use Rattle.serve_run.specs.Ends.{Joined}
use Rattle.serve_run.specs.Lines.{worker_lines}
use Rattle.serve_run.specs.Causes.{AnswersBy}
use Rattle.serve_run.specs.Ended.{MayHave}
use Rattle.serve_run.specs.Serves.{Serves}
use Rattle.serve_run.specs.Writes.{Tells}
use Rattle.serve_run.proofs.Out.{at_lines, at_fault, at_end, served_by}
use Rattle.serve_run.proofs.answering.answer.Goals as goal

pub returns-in-Some : goal.returns-in-Some
returns-in-Some g c = λ s got0 waits0 sink0 started guilds joined may tells.
    let got = g.K.Sink.got c.args.sink.now in
    let waits = g.K.Sink.waits c.args.sink.now in
    let sink = g.K.Sink.faults c.args.sink.now in
    let failed = subst (λ t. Tells (worker_lines s.port (length s.doors)) got0 got waits0 waits sink0 sink started t) c.in-Some.is tells in
    subst (λ f. Serves s got0 got waits0 sink0 sink (Err f) × AnswersBy c.args.fault sink0 sink (Err f)) (sym (c.unwrap_or.ensures ∙ ap (λ o. unwrap_or o c.in-Some.told) c.sooner.ensures))
    (at_lines s got0 got waits0 waits sink0 sink started c.args.fault c.in-Some.told may failed)

pub returns-in-Some-fault : goal.returns-in-Some-fault
returns-in-Some-fault g c = λ s got0 waits0 sink0 started guilds joined may tells.
    let got1 = g.K.Sink.got c.args.sink.now in
    let got2 = g.K.Sink.got c.refuse.new.sink in
    let waits = g.K.Sink.waits c.args.sink.now in
    let sink1 = g.K.Sink.faults c.args.sink.now in
    let sink2 = g.K.Sink.faults c.refuse.new.sink in
    let told = subst (λ t. Tells (worker_lines s.port (length s.doors)) got0 got1 waits0 waits sink0 sink1 started t) c.in_default.is tells in
    subst (λ f. Serves s got0 got2 waits0 sink0 sink2 (Err c.refuse.result) × AnswersBy f sink0 sink2 (Err c.refuse.result)) (sym c.in-Some-fault.is)
    (at_fault s got0 got1 got2 waits0 waits sink0 sink1 sink2 started c.in-Some-fault.fault c.refuse.result (subst (λ f. MayHave started f) c.in-Some-fault.is may) told c.refuse.ensures)

pub returns-in-None : goal.returns-in-None
returns-in-None g c = λ s got0 waits0 sink0 started guilds joined may tells.
    let got1 = g.K.Sink.got c.args.sink.now in
    let got2 = g.K.Sink.got c.put.new.sink in
    let waits = g.K.Sink.waits c.args.sink.now in
    let sink1 = g.K.Sink.faults c.args.sink.now in
    let sink2 = g.K.Sink.faults c.put.new.sink in
    let told = subst (λ t. Tells (worker_lines s.port (length s.doors)) got0 got1 waits0 waits sink0 sink1 started t) c.in_default.is tells in
    let all = subst (λ b. Tells (worker_lines s.port (length s.doors)) got0 got1 waits0 waits sink0 sink1 b None) (subst (λ f. MayHave started f) c.in-None.is may) told in
    let senders = c.args.senders in
    let its = subst (λ posts. Joined s posts senders.actors.items senders.scripts.items senders.workers.items) (sym c.as_slice.ensures) (joined c.in-None.is) in
    let ends = served_by s c.args.guilds.now (λ x. Joined x c.as_slice.result.now senders.actors.items senders.scripts.items senders.workers.items) c.sum_up.result c.sum_up.ensures guilds its in
    subst (λ f. Serves s got0 got2 waits0 sink0 sink2 c.put.result × AnswersBy f sink0 sink2 c.put.result) (sym c.in-None.is)
    (at_end s got0 got1 got2 waits0 waits sink0 sink1 sink2 c.sum_up.result c.put.result ends all c.put.ensures)
