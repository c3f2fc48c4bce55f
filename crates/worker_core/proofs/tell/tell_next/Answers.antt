-- The session of the number is one dispatch further, and is sent it if it is attached.
use Rattle.std.proofs.Common.{[], ◌∷◌, Some, refl, sym, ap, subst, ◌∙◌}
use Rattle.std.proofs.lemmas.Result.{err_from_is_err_and}
use Rattle.payload_text.specs.Around.{text_around}
use Rattle.event_json.proofs.Frames.{numbered_is}
use Rattle.session_core.specs.Pushes.{pushed_to}
use Rattle.worker_core.specs.declared.io.StepFault.{StepFault}
use Rattle.worker_core.specs.Telling.{FailsAt}
use Rattle.worker_core.proofs.Numbering.{fails_next, not_there, tells_next}
use Rattle.worker_core.proofs.tell.tell_next.Goals as goal

pub returns-in_default : goal.returns-in_default
returns-in_default c index is = absurd (not_there c.args.session index c.args.sessions.now is (sym c.in_default.is ∙ c.next_number.ensures))

pub returns : goal.returns
returns c index is =
    let number = c.in-Some.number in
    let d = c.args.dispatch.now in
    let text = c.in_ok-text.ensures ∙ (ap (λ parts. text_around parts (Some number)) c.in_ok-envelope.ensures.envelope ∙ numbered_is d number) in
    tells_next c.args.session index d c.args.sessions.now c.push.new.self number c.in_ok-conn.conn c.in_ok-text.text c.args.out.now.items c.send_to.new.out.items
    c.in_ok-conn.ensures.once is (sym c.in-Some.is ∙ c.next_number.ensures) c.in_ok-conn.ensures.room c.in_ok-conn.ensures.conn text
    (c.in_ok-conn.ensures.pushed ∙ ap (λ t. pushed_to c.args.session t c.args.sessions.now) c.in_ok-share.ensures) c.in_ok-send_to.ensures

pub returns-in_err-conn : goal.returns-in_err-conn
returns-in_err-conn c index is =
    let d = c.args.dispatch.now in
    let p = err_from_is_err_and c.from_residual-in_err-conn.result c.from_residual-in_err-conn.ensures.1 in
    rw p.1 (subst (λ (f : StepFault). FailsAt index (λ x. d ∷ []) c.args.sessions.now f) (sym p.2)
    (fails_next c.args.session index d c.args.sessions.now is (c.in_err-conn.ensures.spent.0 refl)))
