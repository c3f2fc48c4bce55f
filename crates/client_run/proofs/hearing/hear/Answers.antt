use Rattle.std.proofs.Common.{refl, subst}
use Rattle.client_session.specs.declared.received.Received.{Received}
use Rattle.client_session.specs.Received.{IsTextOf}
use Rattle.client_run.proofs.Parts.{text_refused, unasked_tells, unasked_counts}
use Rattle.client_run.proofs.hearing.hear.Goals as goal

pub returns-in-Ok-Dispatch-clause-moves : goal.returns-in-Ok-Dispatch-clause-moves
returns-in-Ok-Dispatch-clause-moves g c before may m =
    c.hear_dispatch.ensures.moves before c.args.text.now (subst (λ (r : Received). IsTextOf c.args.text.now r) c.in-Ok-Dispatch.field-0-is c.in-Ok-Dispatch.ensures.one) may m

pub returns-in-Ok-Other-clause-moves : goal.returns-in-Ok-Other-clause-moves
returns-in-Ok-Other-clause-moves g c before may m =
    c.hear_other.ensures.moves before c.args.text.now (g.W.Watch.told c.args.watch.now c.args.out.now) (subst (λ (r : Received). IsTextOf c.args.text.now r) c.in-Ok-Other.field-0-is c.in-Ok-Other.ensures.one) may m

pub returns-in-Ok-Other-clause-tells : goal.returns-in-Ok-Other-clause-tells
returns-in-Ok-Other-clause-tells g c =
    unasked_tells (g.W.Watch.finished c.args.watch.now c.hear_other.new.client.kept) (g.W.Watch.stopped c.args.watch.now) c.hear_other.result c.hear_other.ensures.unasked

pub returns-in-Ok-Other-clause-counts : goal.returns-in-Ok-Other-clause-counts
returns-in-Ok-Other-clause-counts g c = unasked_counts (g.W.Watch.reconnects c.args.watch.now) c.hear_other.result c.hear_other.ensures.unasked

pub returns-in-Err-clause-moves : goal.returns-in-Err-clause-moves
returns-in-Err-clause-moves g c before may m =
    text_refused c.args.now before c.args.text.now c.args.client.now c.args.client.now (g.W.Watch.told c.args.watch.now c.args.out.now) c.in-Err.fault c.from.result c.args.wire.now refl c.from.ensures c.in-Err.ensures.fault m
