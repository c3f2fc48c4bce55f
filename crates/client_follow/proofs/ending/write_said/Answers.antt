use Rattle.std.proofs.Common.{Result, subst}
use Rattle.client_follow.specs.declared.fault.FollowFault.{FollowFault}
use Rattle.client_follow.specs.Follows.{sink_tale}
use Rattle.client_follow.specs.Watching.{IsWritten}
use Rattle.client_follow.proofs.Endings.{out_of_memory, ends_so}
use Rattle.client_follow.proofs.ending.write_said.Goals as goal

pub returns-in-Ok : goal.returns-in-Ok
returns-in-Ok g c =
    let got = g.K.Sink.got c.args.sink.now in
    let waits = g.K.Sink.waits c.args.sink.now in
    let faults = g.K.Sink.faults c.args.sink.now in
    let new = sink_tale (g.K.Sink.got c.write_end.new.sink) (g.K.Sink.waits c.write_end.new.sink) (g.K.Sink.faults c.write_end.new.sink) in
    let added = c.add_end.new.text.items in
    ends_so c.args.cache.now c.args.ended c.in-Ok.ensures.0 c.args.waiting.items added got waits faults new c.write_end.result c.requires c.in-Ok.ensures.1 c.in-Ok.ensures.2
    (subst (λ (answer : Result (Unit {0}) FollowFault). IsWritten answer added (sink_tale got waits faults) new c.write_end.result) c.answer_of.ensures c.write_end.ensures)

pub returns : goal.returns
returns g c = out_of_memory c.args.cache.now c.args.ended c.add_end.ensures.0 (g.K.Sink.got c.args.sink.now) _ _ (g.K.Sink.faults c.args.sink.now) c.requires c.add_end.ensures.1
