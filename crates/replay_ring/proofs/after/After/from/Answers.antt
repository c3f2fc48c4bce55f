use Rattle.std.proofs.Common.{◌≡◌, ℕ, ◌+◌, ◌-◌, ◌≤◌, List, ◌++◌, length, drop, arith, length-drop, ap, ◌∙◌, sym}
use Rattle.std.proofs.Math.Seq.{drop-append-add}
use Rattle.std.proofs.lemmas.List.{take_all}
use Rattle.replay_ring.proofs.after.After.from.Goals as goal

drop-past : (xs ys : List (List ℕ)) (n : ℕ) → length xs ≤ n → drop n (xs ++ ys) ≡ drop (n - length xs) ys
drop-past xs ys n past =
    let at : n ≡ length xs + (n - length xs) = omega arith in
    ap (λ k. drop k (xs ++ ys)) at ∙ drop-append-add xs ys (n - length xs)

pub returns-else-skipped-front : goal.returns-else-skipped-front
returns-else-skipped-front c =
    let front = c.args.front.now in
    let back = c.args.back.now in
    let skipped = c.args.skipped - length front in
    take_all (length back - skipped) (drop skipped back) (omega (arith, length-drop skipped back))
    ∙ sym (drop-past front back c.args.skipped c.if-skipped-front.false)
