use Rattle.std.proofs.Common.{refl, [], Some, None, Ok, Err, List, ℕ, ap, sym, ◌∙◌}
use Rattle.gate_outside.specs.declared.incoming.Incoming.{Incoming}
use Rattle.gate_outside.specs.declared.sending.Sending.TheVariants as sending
use Rattle.gate_outside.specs.Links.{given_by}
use Rattle.client_run.specs.declared.fault.DriveFault.TheVariants as fault
use Rattle.client_run.proofs.Parts.{stays, loses, told_none}
use Rattle.client_run.proofs.Listening.{hears_text, hears_close, hears_nothing, hears_failure, hears_not}
use Rattle.client_run.proofs.turns.listen.Goals as goal

pub returns-in-Ok-Text-clause-moves : goal.returns-in-Ok-Text-clause-moves
returns-in-Ok-Text-clause-moves g c before may m =
    let text = c.as_str.result.now in
    let x = c.in-Ok-Text.field-0 in
    c.hear.ensures.moves before may
    (hears_text before c.args.wire.now c.recv.new.self m c.recv.result c.recv.ensures.tale c.recv.ensures.cause x text c.in-Ok-Text.is
    (ap (λ (y : Incoming). given_by (Ok y)) c.in-Ok-Text.field-0-is ∙ ap (λ (b : List ℕ). Some (sending.Text b)) (sym c.as_str.ensures)))

pub returns-in-Ok-Closed-clause-moves : goal.returns-in-Ok-Closed-clause-moves
returns-in-Ok-Closed-clause-moves g c before may m =
    let code = c.in-Ok-Closed.code in
    loses c.args.now before (Some code) c.args.client.now c.lose.new.client (g.W.Watch.told c.args.watch.now c.args.out.now) (g.W.Watch.told c.args.watch.now c.args.out.now) c.lose.result c.recv.new.self refl
    (hears_close before c.args.wire.now c.recv.new.self m c.recv.result c.recv.ensures.tale c.recv.ensures.cause c.in-Ok-Closed.field-0 code c.in-Ok-Closed.is c.in-Ok-Closed.field-0-is) c.lose.ensures

pub returns-in-Ok-NotYet-clause-moves : goal.returns-in-Ok-NotYet-clause-moves
returns-in-Ok-NotYet-clause-moves g c before may m =
    stays c.args.now before [] c.args.client.now (g.W.Watch.told c.args.watch.now c.args.out.now) (g.W.Watch.told c.args.watch.now c.args.out.now) (Ok None) c.recv.new.self (told_none _ (g.W.Watch.told c.args.watch.now c.args.out.now) (g.W.Watch.told c.args.watch.now c.args.out.now) refl)
    (hears_nothing before c.args.wire.now c.recv.new.self m c.recv.result c.recv.ensures.tale c.recv.ensures.cause c.in-Ok-NotYet.field-0 c.in-Ok-NotYet.is c.in-Ok-NotYet.field-0-is)

pub returns-in-Err-Failed-clause-moves : goal.returns-in-Err-Failed-clause-moves
returns-in-Err-Failed-clause-moves g c before may m =
    loses c.args.now before None c.args.client.now c.lose-in-Err-Failed.new.client (g.W.Watch.told c.args.watch.now c.args.out.now) (g.W.Watch.told c.args.watch.now c.args.out.now) c.lose-in-Err-Failed.result c.recv.new.self refl
    (hears_failure before c.args.wire.now c.recv.new.self m c.recv.result c.recv.ensures.tale c.recv.ensures.cause c.in-Err-Failed.field-0 c.in-Err-Failed.is c.in-Err-Failed.field-0-is) c.lose-in-Err-Failed.ensures

pub returns-in-Err-Memory-clause-moves : goal.returns-in-Err-Memory-clause-moves
returns-in-Err-Memory-clause-moves g c before may m =
    stays c.args.now before [] c.args.client.now (g.W.Watch.told c.args.watch.now c.args.out.now) (g.W.Watch.told c.args.watch.now c.args.out.now) (Err fault.Memory) c.recv.new.self (told_none _ (g.W.Watch.told c.args.watch.now c.args.out.now) (g.W.Watch.told c.args.watch.now c.args.out.now) refl)
    (None, hears_not before c.args.wire.now c.recv.new.self m c.recv.result c.recv.ensures.tale c.recv.ensures.cause c.in-Err-Memory.field-0 c.in-Err-Memory.is)
