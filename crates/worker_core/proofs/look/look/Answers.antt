-- One entry more.
use Rattle.std.proofs.Common.{◌≡◌, map, ◌∷◌, ◌++◌, ◌+◌, ◌<◌, List, length, drop, sym, ap, subst, ◌∙◌, arith}
use Rattle.std.proofs.lemmas.Result.{err_from_is_err_and}
use Rattle.dispatch_types.specs.declared.viewer.Viewer.{Viewer}
use Rattle.replay_ring.specs.Replay.{Replay}
use Rattle.session_core.specs.State.{State}
use Rattle.edit_apply.specs.Edits.{state_from}
use Rattle.edit_apply.specs.declared.Edit.{Edit}
use Rattle.worker_core.specs.declared.io.StepFault.{StepFault}
use Rattle.worker_core.proofs.look.look.Goals as goal
use Rattle.worker_core.specs.Represents.{FaultBy}
use Rattle.worker_core.specs.Recipients.{Picks, viewer_of}
use Rattle.worker_core.specs.Outputs.{all_written}
use Rattle.worker_core.specs.Looked.{kept_looked, kept_sends, kept_spends}
use Rattle.worker_core.proofs.Looking.{looked_more, sent_more, spent_first, spent_more, viewers_stay}
use Rattle.worker_core.proofs.Telling.{rest_dropped}
use Rattle.world_law.specs.Keeping.{with_sessions}

pub returns-in_err-enter-clause-spent : goal.returns-in_err-enter-clause-spent
returns-in_err-enter-clause-spent c =
    let i = c.loop-entry.entry-index in
    let es : List Edit = c.args.entries.now in
    let e : Edit = c.entry-item.result in
    let g = c.loop-entry.replica.guild in
    let lt : i < length es = omega arith in
    let rest = rest_dropped es i e lt (sym c.entry-item.is) in
    let fault : StepFault = c.in_err-enter.field-0.0 in
    let p = err_from_is_err_and c.from_residual.result c.from_residual.ensures.1 in
    rw p.1 (subst (λ (f : StepFault). FaultBy (kept_spends c.args.replica.now.guild es c.args.sessions.now.sessions) f) (sym p.2)
    (subst (λ b. FaultBy b fault) c.loop-entry.invariant.spent
    (subst (λ (ds : List Edit). FaultBy (kept_spends g ds c.loop-entry.sessions.sessions) fault) (sym rest)
    (spent_first g e (drop (i + 1) es) c.loop-entry.sessions fault (rw c.edit-edit.ensures at c.in_err-enter.ensures.told)))))

pub loop-entry-preserved : goal.loop-entry-preserved
loop-entry-preserved c =
    let i = c.loop-entry.entry-index in
    let es : List Edit = c.args.entries.now in
    let e : Edit = c.entry-item.result in
    let g = c.loop-entry.replica.guild in
    let s = c.loop-entry.sessions in
    let later : List Edit = drop (i + 1) es in
    let lt : i < length es = omega arith in
    let rest : drop i es ≡ e ∷ later = rest_dropped es i e lt (sym c.entry-item.is) in
    let told = rw c.edit-edit.ensures at c.in_ok-enter.ensures.told in
    let now = rw c.edit-edit.ensures at c.in_ok-enter.ensures.guild in
    record {
      recipients = subst (λ (vs : List Viewer). Picks c.args.recipients.now.viewers.items c.args.recipients.now.whose.items vs)
          (sym (ap (λ (n : State Replay). map viewer_of n.sessions) told.0 ∙ viewers_stay g e s.sessions)) c.loop-entry.invariant.recipients;
      guild = ap (λ h. state_from h later) now ∙ (ap (state_from g) (sym rest) ∙ c.loop-entry.invariant.guild);
      sessions = ap (λ h. with_sessions (kept_looked h later c.enter.new.sessions.sessions) c.enter.new.sessions) now
          ∙ (looked_more g e later s c.enter.new.sessions c.loop-entry.out.items c.enter.new.out.items told
          ∙ (ap (λ (ds : List Edit). with_sessions (kept_looked g ds s.sessions) s) (sym rest) ∙ c.loop-entry.invariant.sessions));
      out = ap (λ h. c.enter.new.out.items ++ all_written (kept_sends h later c.enter.new.sessions.sessions)) now
          ∙ (sent_more g e later s c.enter.new.sessions c.loop-entry.out.items c.enter.new.out.items told
          ∙ (ap (λ (ds : List Edit). c.loop-entry.out.items ++ all_written (kept_sends g ds s.sessions)) (sym rest) ∙ c.loop-entry.invariant.out));
      spent = ap (λ h. kept_spends h later c.enter.new.sessions.sessions) now
          ∙ (spent_more g e later s c.enter.new.sessions c.loop-entry.out.items c.enter.new.out.items told
          ∙ (ap (λ (ds : List Edit). kept_spends g ds s.sessions) (sym rest) ∙ c.loop-entry.invariant.spent));
    }

pub enter-requires : goal.enter-requires
enter-requires c = c.loop-entry.invariant.recipients
