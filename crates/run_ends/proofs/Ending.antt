-- The passes of a sender, from the last to the first.
use Rattle.std.proofs.Common.{◌≡◌, ◌≢◌, ℕ, zero, suc, ◌+◌, ◌≤◌, List, [], ◌∷◌, ◌++◌, map, length, Option, Some, None, slice_get, refl, sym, ap, ◌∙◌, subst, arith, eqb, true, false, ⊎_elim}
use Rattle.std.specs.Prelude.{IfSome}
use Rattle.std.proofs.Common.{Global, Vec}
use Rattle.std.proofs.lemmas.List.{length-map}
use Rattle.std.proofs.lemmas.Bool.Decides.{eqb_tells}
use Rattle.std.specs.List.{All}
use Rattle.std.proofs.lemmas.List.Elements.{All-nil, All-cons, All-head, All-tail}
use Rattle.edit_post.specs.Post.{PostId, Sender, Taker}
use Rattle.guild_posts.specs.Posts.{post_of}
use Rattle.load_settle.specs.Passes.{HasEndedAt, IsTakenWhole}
use Rattle.run_ends.specs.Senders.{HaveEnded, HasMark}

-- what stands after so many others
pub at_place : {T : Type 0} (front back : List T) (x : T) → slice_get (front ++ x ∷ back) (length front) ≡ Some x
at_place [] back x = refl
at_place (y ∷ front) back x = at_place front back x

posts_at : (posts : List PostId) (front back : List Sender) (x : Sender) → map post_of (front ++ x ∷ back) ≡ posts → slice_get posts (length front) ≡ Some x.post
posts_at posts front back x e = ap (λ ps. slice_get ps (length front)) (sym e) ∙ here front
  where
    here : (ys : List Sender) → slice_get (map post_of (ys ++ x ∷ back)) (length ys) ≡ Some x.post
    here [] = refl
    here (y ∷ ys) = here ys

mark_at : (front back : List Sender) (x : Sender) → All HasMark (front ++ x ∷ back) → x.mark ≢ 0
mark_at [] back x h = All-head HasMark x back h
mark_at (y ∷ front) back x h = mark_at front back x (λ k d lt. h (suc k) d (omega (arith, lt)))

-- the pass that stands after so many others has ended, at the post with this place
pub ended_at : (posts : List PostId) (front back : List Sender) (x : Sender) → HaveEnded posts (front ++ x ∷ back) → HasEndedAt posts (length front, x)
ended_at posts front back x h = (posts_at posts front back x h.posts_are, mark_at front back x h.ended)

-- all from a place on
abbrev pub WholeFrom : List Taker → List Sender → ℕ → Type 0
WholeFrom taken passes from = (place : ℕ) → from ≤ place → IfSome (slice_get passes place) (λ (s : Sender). IsTakenWhole taken (place, s))

pub whole_from : (taken : List Taker) (front back : List Sender) (x : Sender) → IsTakenWhole taken (length front, x) → WholeFrom taken (front ++ x ∷ back) (length front + 1) → WholeFrom taken (front ++ x ∷ back) (length front)
whole_from taken front back x one later place le = ⊎_elim here there (eqb_tells (length front) place)
  where
    here : (eqb (length front) place ≡ true) × (length front ≡ place) → IfSome (slice_get (front ++ x ∷ back) place) (λ (s : Sender). IsTakenWhole taken (place, s))
    here t = subst (λ (p : ℕ). IfSome (slice_get (front ++ x ∷ back) p) (λ (s : Sender). IsTakenWhole taken (p, s))) t.1
        (subst (λ (o : Option Sender). IfSome o (λ (s : Sender). IsTakenWhole taken (length front, s))) (sym (at_place front back x)) one)

    there : (eqb (length front) place ≡ false) × (length front ≢ place) → IfSome (slice_get (front ++ x ∷ back) place) (λ (s : Sender). IsTakenWhole taken (place, s))
    there t = later place (omega (arith, le, t.1))

past_end : {T : Type 0} (xs : List T) (place : ℕ) → length xs ≤ place → slice_get xs place ≡ None
past_end [] place le = refl
past_end (x ∷ xs) zero le = absurd (omega (arith, le))
past_end (x ∷ xs) (suc place) le = past_end xs place (omega (arith, le))

pub whole_past : (taken : List Taker) (passes : List Sender) → WholeFrom taken passes (length passes)
whole_past taken passes place le = subst (λ (o : Option Sender). IfSome o (λ (s : Sender). IsTakenWhole taken (place, s))) (sym (past_end passes place le)) tt

-- of all in a list, those in a part of it
pub All-first : {T : Type 0} (P : T → Type 0) (xs ys : List T) → All P (xs ++ ys) → All P xs
All-first P [] ys h = All-nil P
All-first P (x ∷ xs) ys h = All-cons P x xs (All-head P x (xs ++ ys) h) (All-first P xs ys (All-tail P x (xs ++ ys) h))

pub All-last : {T : Type 0} (P : T → Type 0) (xs : List T) (x : T) → All P (xs ++ x ∷ []) → P x
All-last P [] x h = All-head P x [] h
All-last P (y ∷ xs) x h = All-last P xs x (All-tail P y (xs ++ x ∷ []) h)

-- each sender has few passes where there are two posts
pub all_few : (posts : List PostId) (a b : Taker) → a.post ∷ b.post ∷ [] ≡ posts → (senders : List (Vec Sender Global)) → All (HaveEnded posts) (map (λ passes. passes.items) senders) → All (λ (passes : Vec Sender Global). length passes.items ≤ 256) senders
all_few posts a b two [] h = All-nil (λ (passes : Vec Sender Global). length passes.items ≤ 256)
all_few posts a b two (s ∷ ss) h =
    let own = All-head (HaveEnded posts) s.items (map (λ passes. passes.items) ss) h in
    let many : length s.items ≡ 2 = sym (length-map s.items post_of) ∙ ap length own.posts_are ∙ ap length (sym two) in
    All-cons (λ (passes : Vec Sender Global). length passes.items ≤ 256) s ss (omega (arith, many)) (all_few posts a b two ss (All-tail (HaveEnded posts) s.items (map (λ passes. passes.items) ss) h))
