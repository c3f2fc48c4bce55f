use Rattle.std.proofs.Common.{◌≡◌, true, ◌∙◌, arith}
use Rattle.std.proofs.lemmas.Slice.Eq.{bytes_eq-Decides}
use Rattle.session_core.proofs.Numbers.{same_id}
use Rattle.session_core.proofs.ids.number_of.Goals as goal

pub returns-then-not-is-clause-all : goal.returns-then-not-is-clause-all
returns-then-not-is-clause-all c n small named =
    let same = same_id c.args.worker n c.in-Some.number c.as_str.result.now c.args.id.now c.in_ok-own.own c.number_after.result c.number_after.ensures (c.as_str.ensures.value ∙ c.in_ok-front.ensures) c.in-Some.is c.in_ok-own.ensures small named in
    let is : c.is.result ≡ true = c.is.ensures ∙ (bytes_eq-Decides c.in_ok-own.own c.args.id.now).1 same in
    absurd (grind (arith, is, c.if-not-is.true))
