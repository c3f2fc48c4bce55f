use Rattle.std.proofs.Common.{◌≡◌, ◌+◌, ◌<◌, ◌++◌, ◌∷◌, List, drop, length, false, sym, ap, subst, ◌∙◌, arith}
use Rattle.std.proofs.lemmas.List.{drop_more}
use Rattle.std.proofs.lemmas.Result.{err_from_is_err_and}
use Rattle.client_session.specs.declared.act.Act.{Act}
use Rattle.client_run.specs.Histories.{sendings}
use Rattle.client_run.specs.Turns.{IsSent, closed_by}
use Rattle.client_run.proofs.Sent.{Sent, sent_next, sent_not, passed_on}
use Rattle.client_run.proofs.acting.act_on_all.Goals as goal

pub returns-in_err-act_on-clause-sent : goal.returns-in_err-act_on-clause-sent
returns-in_err-act_on-clause-sent g c xs s =
    let acts = c.args.acts.now in
    let i = c.loop-act.act-index in
    let lt : i < length acts = omega arith in
    let next : drop i acts ≡ c.act-item.result ∷ drop (i + 1) acts = drop_more acts i c.act-item.result lt ∙ ap (λ (a : Act). a ∷ drop (i + 1) acts) (sym c.act-item.is) in
    let all = xs ++ sendings acts in
    let was = subst (λ (l : List Act). Sent all (closed_by false acts) l c.loop-act.wire) next (c.loop-act.invariant.sent xs s) in
    let e = err_from_is_err_and c.from_residual.result c.from_residual.ensures.1 in
    let f = c.in_err-act_on.field-0.0 in
    passed_on (IsSent (closed_by false acts) all c.act_on.new.wire) all c.act_on.new.wire c.from_residual.result e.0 f e.1 e.2
    (sent_not all (closed_by false acts) c.act-item.result (drop (i + 1) acts) c.loop-act.wire c.act_on.new.wire c.act_on.result c.act_on.ensures.sent was f c.in_err-act_on.was)

pub loop-act-preserved : goal.loop-act-preserved
loop-act-preserved g c =
    let acts = c.args.acts.now in
    let i = c.loop-act.act-index in
    let lt : i < length acts = omega arith in
    let next : drop i acts ≡ c.act-item.result ∷ drop (i + 1) acts = drop_more acts i c.act-item.result lt ∙ ap (λ (a : Act). a ∷ drop (i + 1) acts) (sym c.act-item.is) in
    record {
      gave = c.in_ok-act_on.ensures.gave ∙ c.loop-act.invariant.gave;
      sent = λ xs s.
          sent_next (xs ++ sendings acts) (closed_by false acts) c.act-item.result (drop (i + 1) acts) c.loop-act.wire c.act_on.new.wire c.act_on.result c.act_on.ensures.sent
          (subst (λ (l : List Act). Sent (xs ++ sendings acts) (closed_by false acts) l c.loop-act.wire) next (c.loop-act.invariant.sent xs s)) c.in_ok-act_on.field-0 c.in_ok-act_on.was;
    }
