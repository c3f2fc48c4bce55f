use Rattle.client_run.proofs.Sent.{sent_text, sent_close}
use Rattle.client_run.proofs.acting.act_on.Goals as goal

pub returns-in-Send-clause-sent : goal.returns-in-Send-clause-sent
returns-in-Send-clause-sent g c = rw c.in-Send.is (sent_text c.in-Send.text c.as_str.result.now c.args.wire.now c.send.new.wire c.send.result c.as_str.ensures c.send.ensures.sent)

pub returns-in-Hang-clause-sent : goal.returns-in-Hang-clause-sent
returns-in-Hang-clause-sent g c = rw c.in-Hang.is (sent_close c.in-Hang.code c.args.wire.now c.close.new.wire c.close.result c.close.ensures.sent)
