use Rattle.std.proofs.Common.{[], ◌∷◌, ◌++◌, Some, None, Ok, Err, Result, MatchResult, false, refl, sym, subst, ◌∙◌}
use Rattle.gate_outside.specs.declared.faults.Fault.{Fault}
use Rattle.client_run.specs.declared.ending.Ending.TheVariants as ending
use Rattle.client_run.specs.declared.fault.DriveFault.TheVariants as fault
use Rattle.client_run.specs.Histories.{told, given, sendings}
use Rattle.client_run.specs.Turns.{IsSent, FailsAt, closed_by}
use Rattle.client_run.proofs.Parts.{stays, loss_unasked, told_none, loses, answer_cut, answer_lost, answer_left, answer_stays}
use Rattle.client_run.proofs.hearing.answer.Goals as goal

pub returns-in-Err-Memory-clause-moves : goal.returns-in-Err-Memory-clause-moves
returns-in-Err-Memory-clause-moves g c now before event known h =
    let acts = c.args.acts.now in
    let l = c.act_on_all.new.wire in
    let all = given before ++ sendings acts in
    let failed = subst (λ (r : Result (Unit {0}) Fault). MatchResult r (λ _. IsSent (closed_by false acts) all l) (FailsAt all l)) c.in-Err-Memory.is (c.act_on_all.ensures.sent (given before) h.sent) in
    stays now (before ++ told event acts ∷ []) [] c.args.client.now known known (Err fault.Memory) l (told_none _ known known refl)
    (None, answer_cut before event acts c.args.wire.now l c.act_on_all.ensures.gave h (subst (λ (f : Fault). FailsAt all l f) c.in-Err-Memory.field-0-is failed))

pub returns-in-Err-Failed-clause-moves : goal.returns-in-Err-Failed-clause-moves
returns-in-Err-Failed-clause-moves g c now before event known h =
    let acts = c.args.acts.now in
    let l = c.act_on_all.new.wire in
    let all = given before ++ sendings acts in
    let failed = subst (λ (r : Result (Unit {0}) Fault). MatchResult r (λ _. IsSent (closed_by false acts) all l) (FailsAt all l)) c.in-Err-Failed.is (c.act_on_all.ensures.sent (given before) h.sent) in
    loses now (before ++ told event acts ∷ []) None c.args.client.now c.lose.new.client known known c.lose.result l refl
    (answer_lost before event acts c.args.wire.now l c.act_on_all.ensures.gave h (subst (λ (f : Fault). FailsAt all l f) c.in-Err-Failed.field-0-is failed)) c.lose.ensures

pub returns-in-Some-clause-moves : goal.returns-in-Some-clause-moves
returns-in-Some-clause-moves g c now before event known h =
    let acts = c.args.acts.now in
    let l = c.act_on_all.new.wire in
    let all = given before ++ sendings acts in
    let r = Ok (Some (ending.Left c.in-Some.target)) in
    let sent = subst (λ (r : Result (Unit {0}) Fault). MatchResult r (λ _. IsSent (closed_by false acts) all l) (FailsAt all l)) c.in-Ok.is (c.act_on_all.ensures.sent (given before) h.sent) in
    stays now (before ++ told event acts ∷ []) [] c.args.client.now known known r l (told_none r known known refl)
    (answer_left before event acts c.args.wire.now l c.act_on_all.ensures.gave h (closed_by false acts) c.in-Some.target (sym c.next_target.ensures ∙ c.in-Some.is) sent)

pub returns-in-None-clause-moves : goal.returns-in-None-clause-moves
returns-in-None-clause-moves g c now before event known h =
    let acts = c.args.acts.now in
    let l = c.act_on_all.new.wire in
    let all = given before ++ sendings acts in
    let r = Ok None in
    let sent = subst (λ (r : Result (Unit {0}) Fault). MatchResult r (λ _. IsSent (closed_by false acts) all l) (FailsAt all l)) c.in-Ok.is (c.act_on_all.ensures.sent (given before) h.sent) in
    stays now (before ++ told event acts ∷ []) [] c.args.client.now known known r l (told_none r known known refl)
    (answer_stays before event acts c.args.wire.now l c.act_on_all.ensures.gave h (closed_by false acts) (c.requires.closes (sym c.next_target.ensures ∙ c.in-None.is)) sent)

pub returns-in-Err-Failed-clause-unasked : goal.returns-in-Err-Failed-clause-unasked
returns-in-Err-Failed-clause-unasked g c = loss_unasked None c.lose.ensures.0 c.lose.result c.lose.ensures.1.1
