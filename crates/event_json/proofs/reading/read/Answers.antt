use Rattle.std.proofs.Common.{◌≡◌, ℕ, Result, Some, Ok, Err, inl, inr, sym, ap, ◌∙◌}
use Rattle.std.proofs.lemmas.Result.{err_from_is_err_and}
use Rattle.dispatch_types.specs.declared.dispatch.Dispatch.{Dispatch}
use Rattle.event_json.specs.declared.fault.DispatchFault.{DispatchFault}
use Rattle.event_json.specs.declared.fault.DispatchFault.TheVariants.{Memory}
use Rattle.event_json.specs.Text.{data_of}
use Rattle.event_json.proofs.Candidates.{is_found}
use Rattle.event_json.proofs.reading.read.Goals as goal

same_pair : (p q : Dispatch × ℕ) (r : Result (Dispatch × ℕ) DispatchFault) → Ok p ≡ r → r ≡ Ok q → p ≡ q
same_pair p q r e f = let both = e ∙ f in cc

pub returns-in_err-dispatch-clause-each : goal.returns-in_err-dispatch-clause-each
returns-in_err-dispatch-clause-each c = λ d n h.
    let there = is_found c.args.text.now d n h in
    let p = err_from_is_err_and c.from_residual.result c.from_residual.ensures.1 in
    elim c.in_err-dispatch.ensures [
      | inl e ↦ (let fault : c.in_err-dispatch.field-0.0 ≡ Memory = cc in inl (p.1 ∙ ap Err (p.2 ∙ fault)))
      | inr e ↦ absurd (let both = e ∙ there in cc)
    ]

pub returns-then-is_exact-clause-each : goal.returns-then-is_exact-clause-each
returns-then-is_exact-clause-each c = λ d n h.
    elim c.in_ok-dispatch.ensures [
      | inl e ↦ absurd cc
      | inr e ↦ inr (e ∙ is_found c.args.text.now d n h)
    ]

pub returns-else-is_exact-clause-each : goal.returns-else-is_exact-clause-each
returns-else-is_exact-clause-each c = λ d n h.
    elim c.in_ok-dispatch.ensures [
      | inl e ↦ absurd cc
      | inr e ↦ absurd (let both : (c.in_ok-dispatch.dispatch, c.in_ok-dispatch.number) ≡ (d, n) = same_pair (c.in_ok-dispatch.dispatch, c.in_ok-dispatch.number) (d, n) _ e (is_found c.args.text.now d n h) in
          c.in-Ok.ensures.no c.if-is_exact.false (h.2 ∙ sym (ap (λ p. Some (data_of p.0 p.1)) both)))
    ]
