-- One session more is told the entry.
use Rattle.std.proofs.Common.{◌≡◌, ◌<◌, List, length, get_or, refl, sym, ap, subst, ◌∙◌, arith}
use Rattle.std.proofs.lemmas.List.{length-map}
use Rattle.std.proofs.lemmas.Result.{err_from_is_err_and}
use Rattle.replay_ring.specs.Replay.{Replay}
use Rattle.session_core.specs.State.{Session}
use Rattle.edit_events.specs.Due.{due}
use Rattle.worker_core.specs.declared.io.StepFault.{StepFault}
use Rattle.worker_core.specs.Recipients.{viewer_of}
use Rattle.worker_core.specs.Telling.{FailsEach}
use Rattle.worker_core.proofs.look.tell_each.Goals as goal
use Rattle.worker_core.proofs.Picking.{item_at, as_many_picked}
use Rattle.worker_core.proofs.Looking.{due_at, each_more, each_fails}

pub tell-requires : goal.tell-requires
tell-requires c =
    let xs : List (Session Replay) = c.args.sessions.now.sessions in
    let many : length c.args.recipients.now.whose.items ≡ length xs = as_many_picked c.args.recipients.now.viewers.items c.args.recipients.now.whose.items _ c.requires ∙ length-map xs viewer_of in
    omega (arith, many, c.loop-index.invariant.as_many)

pub returns-in_err-tell : goal.returns-in_err-tell
returns-in_err-tell c s e picks =
    let xs : List (Session Replay) = c.args.sessions.now.sessions in
    let i = c.loop-index.index in
    let a = c.args.recipients.now in
    let o = c.args.lists.now in
    let many : length a.whose.items ≡ length xs = as_many_picked a.viewers.items a.whose.items _ c.requires ∙ length-map xs viewer_of in
    let lt : i < length xs = omega (arith, many) in
    let here = item_at xs i lt in
    let told = c.loop-index.invariant.told s e picks in
    let is_due = due_at s e a.viewers.items a.whose.items o.told.items o.whose.items xs i _ 0 lt here c.requires picks (ap (λ ws. get_or ws i 0) c.as_slice-whose.ensures.value) in
    let ds = due s e here.item.viewer in
    let p = err_from_is_err_and c.from_residual.result c.from_residual.ensures.1 in
    rw p.1 (subst (λ (f : StepFault). FailsEach s e c.args.sessions.now f) (sym p.2)
    (each_fails s e c.args.sessions.now ds c.loop-index.sessions c.args.out.now.items c.loop-index.out.items i lt here
    (record { sessions = told.0; out = told.1.0; counted = told.1.1 }) refl c.in_err-tell.field-0.0 (c.in_err-tell.ensures.told ds is_due)))

pub loop-index-preserved : goal.loop-index-preserved
loop-index-preserved c = record {
  told = λ s e picks.
      let xs : List (Session Replay) = c.args.sessions.now.sessions in
      let i = c.loop-index.index in
      let a = c.args.recipients.now in
      let o = c.args.lists.now in
      let many : length a.whose.items ≡ length xs = as_many_picked a.viewers.items a.whose.items _ c.requires ∙ length-map xs viewer_of in
      let lt : i < length xs = omega (arith, many) in
      let here = item_at xs i lt in
      let told = c.loop-index.invariant.told s e picks in
      let is_due = due_at s e a.viewers.items a.whose.items o.told.items o.whose.items xs i _ 0 lt here c.requires picks (ap (λ ws. get_or ws i 0) c.as_slice-whose.ensures.value) in
      let ds = due s e here.item.viewer in
      let step = each_more s e c.args.sessions.now ds c.loop-index.sessions c.args.out.now.items c.loop-index.out.items i lt here
      (record { sessions = told.0; out = told.1.0; counted = told.1.1 }) refl c.tell.new.sessions c.tell.new.out.items (c.in_ok-tell.ensures.told ds is_due) in
      (step.sessions, (step.out, step.counted));
  as_many = c.in_ok-tell.ensures.as_many ∙ c.loop-index.invariant.as_many;
}
