use Rattle.std.proofs.Common.{sym}
use Rattle.client_follow.proofs.Endings.{left_so}
use Rattle.client_follow.proofs.ending.end.Goals as goal

pub returns : goal.returns
returns g c = left_so c.args.cache.now c.args.ended (g.K.Sink.got c.args.sink.now) _ _ (g.K.Sink.faults c.args.sink.now) c.answer_of.result (sym c.if-may_write.ensures) c.answer_of.ensures
