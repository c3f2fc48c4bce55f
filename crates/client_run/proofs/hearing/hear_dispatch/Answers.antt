use Rattle.std.proofs.Common.{[], ◌∷◌, ◌++◌, false, refl, inl, ap, subst, sym, Err, List, append-nil}
use Rattle.gate_outside.specs.declared.sending.Sending.{Sending}
use Rattle.client_session.specs.declared.fault.ClientFault.TheVariants.{Memory}
use Rattle.client_session.specs.declared.received.Received.TheVariants as payload
use Rattle.client_session.specs.Step.{Receives}
use Rattle.client_run.specs.declared.fault.DriveFault.TheVariants as fault
use Rattle.client_run.specs.Histories.{told, given}
use Rattle.client_run.specs.Turns.{Moves, IsSent}
use Rattle.client_run.specs.Watched.{WatchTale}
use Rattle.client_run.proofs.Parts.{text_refused, told_first, answered_at, answer_stays}
use Rattle.client_run.proofs.hearing.hear_dispatch.Goals as goal

pub returns-in-Err-clause-moves : goal.returns-in-Err-clause-moves
returns-in-Err-clause-moves g c before text is may m =
    let known = g.W.Watch.told c.args.watch.now c.args.out.now in
    subst (λ (later : WatchTale). Moves c.args.now before [] c.args.client.now c.args.client.now known later (Err fault.Memory) c.args.wire.now) (sym (ap (λ tells. tells c.args.out.now) c.before_dispatch.ensures.told))
    (text_refused c.args.now before text c.args.client.now c.args.client.now known Memory fault.Memory c.args.wire.now refl refl (inl refl) m)

pub returns-in-Err-fold-clause-moves : goal.returns-in-Err-fold-clause-moves
returns-in-Err-fold-clause-moves g c before text is may m =
    let known = g.W.Watch.told c.args.watch.now c.args.out.now in
    subst (λ (later : WatchTale). Moves c.args.now before [] c.args.client.now c.fold.new.client known later (Err c.from.result) c.args.wire.now) (sym (ap (λ tells. tells c.args.out.now) c.before_dispatch.ensures.told))
    (text_refused c.args.now before text c.args.client.now c.fold.new.client known c.in-Err-fold.fault c.from.result c.args.wire.now c.in-Err-fold.ensures.1 c.from.ensures (inl c.in-Err-fold.ensures.0) m)

pub returns-in-Ok-fold-clause-moves : goal.returns-in-Ok-fold-clause-moves
returns-in-Ok-fold-clause-moves g c before text is may m =
    let now = c.args.now in
    let p = payload.Dispatch c.args.dispatch c.args.number in
    let l = c.args.wire.now in
    let shown = g.W.Watch.told c.before_dispatch.new.self c.args.out.now in
    let h = answered_at before p text now [] l may is m in
    let sent = subst (λ (xs : List Sending). IsSent false xs l) (sym (append-nil (given before))) h.sent in
    let after = answer_stays before (Receives p now) [] l l refl h false refl sent in
    let moves = c.ask.ensures.moves now c.args.number c.args.dispatch (before ++ told (Receives p now) [] ∷ []) c.in-Ok.ensures.looked after in
    subst (λ (known : WatchTale). Moves now before [] c.args.client.now c.ask.new.client known (g.W.Watch.told c.ask.new.watch c.ask.new.out) c.ask.result c.ask.new.wire) (ap (λ tells. tells c.args.out.now) c.before_dispatch.ensures.told)
    (told_first now before p [] c.args.client.now c.fold.new.client c.ask.new.client shown (g.W.Watch.told c.ask.new.watch c.ask.new.out) c.ask.result c.ask.new.wire c.in-Ok-fold.ensures moves)
