use Rattle.client_run.proofs.Listening.{beats, beats_not, beats_cut}
use Rattle.client_run.proofs.turns.beat.Goals as goal

pub returns-in-Ok-Some : goal.returns-in-Ok-Some
returns-in-Ok-Some g c before m =
    beats before c.args.now c.in-Ok-Some.field-0 c.in-Ok-Some.act c.args.client.now c.next.new.self c.args.wire.now c.act_on.new.wire c.act_on.result c.in-Ok-Some.field-0-is c.in-Ok-Some.ensures.step c.act_on.ensures.gave c.act_on.ensures.sent m

pub returns-in-Ok-None : goal.returns-in-Ok-None
returns-in-Ok-None g c before m = beats_not before c.args.now c.in-Ok-None.field-0 c.args.client.now c.next.new.self c.args.wire.now c.in-Ok-None.field-0-is c.in-Ok-None.ensures.step m

pub returns-in-Err : goal.returns-in-Err
returns-in-Err g c before m = beats_cut before c.args.now c.args.client.now c.next.new.self c.args.wire.now c.in-Err.ensures.err m
