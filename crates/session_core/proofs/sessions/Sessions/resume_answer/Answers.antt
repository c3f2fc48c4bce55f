use Rattle.std.proofs.Common.{◌≡◌, Option, Some, None, sym, ap, subst, ◌∙◌}
use Rattle.std.specs.Prelude.{IfOk, ◌==◌}
use Rattle.std.specs.Option.{option_and_then}
use Rattle.std.specs.List.{find}
use Rattle.replay_ring.specs.Replay.{Replay}
use Rattle.session_core.specs.declared.resume.ResumeAnswer.TheVariants.{NotResumable}
use Rattle.session_core.specs.State.{Session}
use Rattle.session_core.specs.Frames.{as_kept}
use Rattle.session_core.specs.Kept.{session_of}
use Rattle.session_core.specs.Resume.{session_named, resume_by}
use Rattle.session_core.specs.Resumption.{Matches}
use Rattle.session_core.proofs.Joins.{there_kept}
use Rattle.session_core.proofs.sessions.Sessions.resume_answer.Goals as goal

pub returns-in_default-clause-answer : goal.returns-in_default-clause-answer
returns-in_default-clause-answer c =
    let s = c.args.self.now in
    let none : session_named c.args.resume.now.session s ≡ None =
    ap (λ id. session_named id s) (sym c.as_str.ensures) ∙ (c.in_ok-number.ensures ∙ ap (option_and_then (λ n. find (λ (x : Session Replay). x.number == n) s.sessions)) c.in_default.is) in
    subst (λ (o : Option (Session Replay)). Matches c.args.conn NotResumable (resume_by as_kept c.args.resume.now o)) (sym none) tt

pub returns-in_default-session-clause-answer : goal.returns-in_default-session-clause-answer
returns-in_default-session-clause-answer c =
    let s = c.args.self.now in
    let none : session_named c.args.resume.now.session s ≡ None =
    ap (λ id. session_named id s) (sym c.as_str.ensures)
    ∙ (c.in_ok-number.ensures ∙ (ap (option_and_then (λ n. find (λ (x : Session Replay). x.number == n) s.sessions)) c.in-Some.is ∙ sym c.in_default-session.ensures)) in
    subst (λ (o : Option (Session Replay)). Matches c.args.conn NotResumable (resume_by as_kept c.args.resume.now o)) (sym none) tt

pub returns-clause-answer : goal.returns-clause-answer
returns-clause-answer c =
    let s = c.args.self.now in
    let some : session_named c.args.resume.now.session s ≡ Some (session_of (c.in-Some.number, c.in-Some-session.session.now)) =
    ap (λ id. session_named id s) (sym c.as_str.ensures)
    ∙ (c.in_ok-number.ensures ∙ (ap (option_and_then (λ n. find (λ (x : Session Replay). x.number == n) s.sessions)) c.in-Some.is ∙ sym c.in-Some-session.ensures)) in
    subst (λ (o : Option (Session Replay)). IfOk c.answer_of.result (λ answer. Matches c.args.conn answer (resume_by as_kept c.args.resume.now o))) (sym some) c.answer_of.ensures.answer

pub returns-clause-there : goal.returns-clause-there
returns-clause-there c = there_kept c.args.self.now c.in-Some.number c.in-Some-session.session.now c.answer_of.result (sym c.in-Some-session.ensures) c.answer_of.ensures.own
