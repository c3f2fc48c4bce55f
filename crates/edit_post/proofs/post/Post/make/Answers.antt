use Rattle.std.proofs.Common.{◌≡◌, ℕ, zero, suc, ◌+◌, ◌<◌, ◌≤◌, List, [], ◌∷◌, ◌++◌, length, Some, sym, refl, ap, ◌∙◌, arith, length-append}
use Rattle.std.specs.Prelude.{slice_get}
use Rattle.std.proofs.Common.{lt_of_not-le}
use mathlib.Core.Logic.{dite}
use native.Mathlib.Decide.{dec_le}
use Rattle.edit_post.specs.Post.{PostId, Sender, Taker, new_sender, with_one}
use Rattle.edit_post.proofs.post.Post.make.Goals as goal

before : (xs ys : List Sender) (k : ℕ) → k < length xs → slice_get (xs ++ ys) k ≡ slice_get xs k
before [] ys k lt = absurd (omega arith)
before (x ∷ xs) ys zero lt = refl
before (x ∷ xs) ys (suc k) lt = before xs ys k (omega arith)

here : (xs : List Sender) (y : Sender) (k : ℕ) → k ≡ length xs → slice_get (xs ++ y ∷ []) k ≡ Some y
here [] y zero e = refl
here [] y (suc k) e = absurd (omega arith)
here (x ∷ xs) y zero e = absurd (omega arith)
here (x ∷ xs) y (suc k) e = here xs y k (omega arith)

one_more : (post : PostId) (xs : List Sender) (n : ℕ) (p : ℕ) → length xs ≡ n → ((k : ℕ) → k < n → slice_get xs k ≡ Some (new_sender post k)) → p < n + 1 → slice_get (xs ++ new_sender post n ∷ []) p ≡ Some (new_sender post p)
one_more post xs n p len h lt = dite (dec_le n p)
    (λ (le : n ≤ p). let same : p ≡ n = omega arith in here xs (new_sender post n) p (omega arith) ∙ ap (λ k. Some (new_sender post k)) (sym same))
    (λ not. let low : p < n = lt_of_not-le not in before xs (new_sender post n ∷ []) p (omega arith) ∙ h p low)

pub loop-sender-preserved : goal.loop-sender-preserved
loop-sender-preserved g c = record {
  taker = c.admit.ensures.taker ∙ ap with_one c.loop-sender.invariant.taker;
  many = omega (arith, c.in_ok-push.ensures.items, c.loop-sender.invariant.many, length-append c.loop-sender.passes.items (c.admit.result ∷ []), ap (length {A = Sender}) c.in_ok-push.ensures.items);
  passes = λ p lt.
      let many : c.loop-sender.taker.senders ≡ c.loop-sender.sender = ap (λ (t : Taker). t.senders) c.loop-sender.invariant.taker in
      let fresh = rw many at c.admit.ensures.sender in
      ap (λ l. slice_get l p) (c.in_ok-push.ensures.items ∙ ap (λ x. c.loop-sender.passes.items ++ x ∷ []) fresh)
      ∙ one_more _ c.loop-sender.passes.items c.loop-sender.sender p c.loop-sender.invariant.many c.loop-sender.invariant.passes lt;
}
