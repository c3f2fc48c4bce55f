use Rattle.std.proofs.Common.{[], ◌∷◌, ◌++◌, ℕ, Option, List, inl, subst, sym}
use Rattle.std.specs.Prelude.{option_to_list}
use Rattle.client_session.specs.declared.act.Act.{Act}
use Rattle.client_session.specs.declared.received.Received.TheVariants as payload
use Rattle.client_session.specs.Step.{Receives, StepsTo}
use Rattle.client_run.specs.Histories.{told}
use Rattle.client_run.specs.Turns.{Moves}
use Rattle.client_run.proofs.Shapes.{other_line}
use Rattle.client_run.proofs.Parts.{text_refused, told_first, answered_at}
use Rattle.client_run.proofs.hearing.hear_other.Goals as goal

pub returns-in-Ok-clause-moves : goal.returns-in-Ok-clause-moves
returns-in-Ok-clause-moves g c before text known is may m =
    let now = c.args.now in
    let p = payload.Other c.args.out in
    let acts = c.deref.result.now in
    let mid = c.on_received.new.self in
    let steps = subst (λ (done : List Act). StepsTo c.args.client.now (Receives p now) mid done) (sym c.deref.ensures.value) c.in-Ok.ensures in
    let moves = c.answer.ensures.moves now before (Receives p now) known (answered_at before p text now acts c.args.wire.now may is m) in
    told_first now before p acts c.args.client.now mid c.answer.new.client known known c.answer.result c.answer.new.wire steps
    (subst (λ (o : Option (List ℕ)). Moves now (before ++ told (Receives p now) acts ∷ []) (option_to_list o) mid c.answer.new.client known known c.answer.result c.answer.new.wire) (sym (other_line c.args.out is.0)) moves)

pub returns-in-Err-clause-moves : goal.returns-in-Err-clause-moves
returns-in-Err-clause-moves g c before text known is may m =
    text_refused c.args.now before text c.args.client.now c.on_received.new.self known c.in-Err.fault c.from.result c.args.wire.now c.in-Err.ensures.1 c.from.ensures (inl c.in-Err.ensures.0) m
