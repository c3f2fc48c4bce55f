use Rattle.std.proofs.Common.{refl, [], ◌∷◌, ◌++◌, Some, None, Ok, Err, true, MatchResult, subst, inl, inr}
use Rattle.gate_outside.specs.declared.sending.Sending.TheVariants as sending
use Rattle.dispatch_types.specs.Kinds.{kind_of}
use Rattle.client_run.specs.declared.ending.Ending.TheVariants as ending
use Rattle.client_run.specs.declared.fault.DriveFault.TheVariants as fault
use Rattle.client_run.specs.Histories.{given}
use Rattle.client_run.specs.Watched.{dispatch_line}
use Rattle.client_run.specs.Turns.{IsSent, FailsAt}
use Rattle.client_run.proofs.Parts.{stays, drops, finished, stopped, cut_off, fails_front}
use Rattle.client_run.proofs.hearing.ask.Goals as goal

pub returns-in-Ok-GoOn-clause-moves : goal.returns-in-Ok-GoOn-clause-moves
returns-in-Ok-GoOn-clause-moves g c now number dispatch before looked m =
    stays now before (dispatch_line number (kind_of dispatch) ∷ []) c.args.client.now (g.W.Watch.told c.args.watch.now c.args.out.now) (g.W.Watch.told c.after_dispatch.new.self c.after_dispatch.new.out) (Ok None) c.args.wire.now
    (inr (c.in-Ok-GoOn.ensures.told number dispatch looked)) m

pub returns-in-Ok-Reconnect-clause-moves : goal.returns-in-Ok-Reconnect-clause-moves
returns-in-Ok-Reconnect-clause-moves g c now number dispatch before looked m =
    drops now before (dispatch_line number (kind_of dispatch) ∷ []) c.args.client.now c.lose_dropped.new.client (g.W.Watch.told c.args.watch.now c.args.out.now) (g.W.Watch.told c.after_dispatch.new.self c.after_dispatch.new.out) c.lose_dropped.result c.args.wire.now
    (c.in-Ok-Reconnect.ensures.told number dispatch looked) m c.lose_dropped.ensures

pub returns-in-Ok-clause-moves : goal.returns-in-Ok-clause-moves
returns-in-Ok-clause-moves g c now number dispatch before looked m =
    let l = c.close.new.wire in
    let sent = subst (λ r. MatchResult r (λ _. IsSent true (given before ++ sending.Close 1000 ∷ []) l) (FailsAt (given before) l)) c.in-Ok.is (c.close.ensures.sent (given before) m.sent) in
    stays now before (dispatch_line number (kind_of dispatch) ∷ []) c.args.client.now (g.W.Watch.told c.args.watch.now c.args.out.now) (g.W.Watch.told c.after_dispatch.new.self c.after_dispatch.new.out) (Ok (Some ending.Finished)) l
    (inr (c.in-Ok-Finish.ensures.told number dispatch looked)) (finished before c.args.wire.now l c.close.ensures.gave m sent)

pub returns-in-Err-close-clause-moves : goal.returns-in-Err-close-clause-moves
returns-in-Err-close-clause-moves g c now number dispatch before looked m =
    let l = c.close.new.wire in
    let failed = subst (λ r. MatchResult r (λ _. IsSent true (given before ++ sending.Close 1000 ∷ []) l) (FailsAt (given before) l)) c.in-Err-close.is (c.close.ensures.sent (given before) m.sent) in
    stays now before (dispatch_line number (kind_of dispatch) ∷ []) c.args.client.now (g.W.Watch.told c.args.watch.now c.args.out.now) (g.W.Watch.told c.after_dispatch.new.self c.after_dispatch.new.out) (Err fault.Memory) l
    (inr (c.in-Ok-Finish.ensures.told number dispatch looked)) (None, cut_off before c.args.wire.now l c.close.ensures.gave m (fails_front (given before) l c.in-Err-close.field-0 failed))

pub returns-in-Ok-Stop-clause-moves : goal.returns-in-Ok-Stop-clause-moves
returns-in-Ok-Stop-clause-moves g c now number dispatch before looked m =
    stays now before (dispatch_line number (kind_of dispatch) ∷ []) c.args.client.now (g.W.Watch.told c.args.watch.now c.args.out.now) (g.W.Watch.told c.after_dispatch.new.self c.after_dispatch.new.out) (Ok (Some ending.Stopped)) c.args.wire.now
    (inr (c.in-Ok-Stop.ensures.told number dispatch looked)) (stopped before c.args.wire.now m)

pub returns-in-Err-clause-moves : goal.returns-in-Err-clause-moves
returns-in-Err-clause-moves g c now number dispatch before looked m =
    let l = c.args.wire.now in
    stays now before (dispatch_line number (kind_of dispatch) ∷ []) c.args.client.now (g.W.Watch.told c.args.watch.now c.args.out.now) (g.W.Watch.told c.after_dispatch.new.self c.after_dispatch.new.out) (Err fault.Memory) l
    (inl (refl, c.in-Err.ensures.told number dispatch looked)) (None, cut_off before l l refl m m.sent.front)
