use Rattle.std.proofs.Common.{◌≡◌, ◌++◌, Some, sym, ap, ◌∙◌, arith}
use Rattle.session_core.proofs.Numbers.{after_front}
use Rattle.session_core.proofs.ids.number_after.Goals as goal

pub returns-in_default : goal.returns-in_default
returns-in_default c n small same =
    let p = c.in_ok-digits.ensures.cases in
    let whole : c.args.text.now ≡ c.args.front.now ++ c.in_ok-digits.digits.now = p.1.1 ∙ ap (λ rest. c.args.front.now ++ rest) (sym p.2) in
    absurd (cc (c.in_default.is, c.parse.ensures, after_front c.args.text.now c.args.front.now c.in_ok-digits.digits.now n small whole same))

pub returns-then-number : goal.returns-then-number
returns-then-number c n small same =
    let p = c.in_ok-digits.ensures.cases in
    let whole : c.args.text.now ≡ c.args.front.now ++ c.in_ok-digits.digits.now = p.1.1 ∙ ap (λ rest. c.args.front.now ++ rest) (sym p.2) in
    let got : c.in-Ok.number ≡ n = cc (c.in-Ok.is, c.parse.ensures, after_front c.args.text.now c.args.front.now c.in_ok-digits.digits.now n small whole same) in
    let is : c.number.inside.0 ≡ n = c.number.view_is ∙ got in
    absurd (omega (arith, is, small, c.if-number.true))

pub returns : goal.returns
returns c n small same =
    let p = c.in_ok-digits.ensures.cases in
    let whole : c.args.text.now ≡ c.args.front.now ++ c.in_ok-digits.digits.now = p.1.1 ∙ ap (λ rest. c.args.front.now ++ rest) (sym p.2) in
    let got : c.in-Ok.number ≡ n = cc (c.in-Ok.is, c.parse.ensures, after_front c.args.text.now c.args.front.now c.in_ok-digits.digits.now n small whole same) in
    ap Some (c.number.view_is ∙ got)
