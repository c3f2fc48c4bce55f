-- What was noted goes to the worker.
use Rattle.std.proofs.Common.{◌≡◌, [], ◌∷◌, true, false, Result, Ok, Err, is_err, OnOk, OnErr, sym, ◌∙◌}
use Rattle.std.proofs.lemmas.Bool.{true≢false, false≢true}
use Rattle.std.proofs.lemmas.Result.{err_from_is_err_and}
use Rattle.gate_outside.specs.Told.{GrowsBy}
use Rattle.worker_run.specs.Notes.{AreNoted}
use Rattle.worker_run.proofs.Workers.{follows_step}
use Rattle.worker_run.proofs.Notes.{noted_one, refused_one, takes_not}
use Rattle.worker_run.proofs.intake.take_in.Goals as goal

at_ok : {T E : Type 0} (r : Result T E) (P : Type 0) → is_err r ≡ false → OnOk r P → P
at_ok (Ok x) P e holds = holds
at_ok (Err x) P e holds = absurd (true≢false e)

at_err : {T E : Type 0} (r : Result T E) (P : Type 0) → is_err r ≡ true → OnErr r P → P
at_err (Ok x) P e holds = absurd (false≢true e)
at_err (Err x) P e holds = holds

pub returns-then-is_err : goal.returns-then-is_err
returns-then-is_err g c i is =
    let before = g.J.Notes.noted c.args.notes.now in
    let now = g.J.Notes.noted c.note.new.self in
    refused_one i before now (at_err c.note.result (now ≡ before) (sym c.is_err.ensures.value ∙ c.if-is_err.true) c.note.ensures.err)

pub returns-in_err-step : goal.returns-in_err-step
returns-in_err-step g c i is =
    let before = g.J.Notes.noted c.args.notes.now in
    let now = g.J.Notes.noted c.note.new.self in
    let noted : AreNoted (i ∷ []) before now = noted_one i c.args.input before now is
    (at_ok c.note.result (GrowsBy before now c.args.input) (sym c.is_err.ensures.value ∙ c.if-is_err.false) c.note.ensures.ok) in
    let e = err_from_is_err_and c.from_residual.result c.from_residual.ensures.1 in
    rw e.1 (rw e.2 (takes_not i c.args.worker.now before now c.in_err-step.field-0.0 (λ w stands. c.in_err-step.ensures.steps w i stands is) noted))

pub returns : goal.returns
returns g c i is =
    let before = g.J.Notes.noted c.args.notes.now in
    let now = g.J.Notes.noted c.note.new.self in (
      follows_step c.args.worker.now c.step.new.self i c.in_ok-step.field-0.items (λ w stands. c.in_ok-step.ensures.steps w i stands is),
      noted_one i c.args.input before now is (at_ok c.note.result (GrowsBy before now c.args.input) (sym c.is_err.ensures.value ∙ c.if-is_err.false) c.note.ensures.ok),
    )
