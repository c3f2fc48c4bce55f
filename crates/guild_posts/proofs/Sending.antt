-- One edit on its way to its post.
use Rattle.std.proofs.Common.{◌≡◌, ◌≢◌, ℕ, zero, suc, ◌<◌, ◌==◌, ◌||◌, Bool, true, false, cond, Option, Some, None, Result, Ok, Err, MatchResult, List, [], ◌∷◌, map, length, get_or, set, slice_get, option_map, sym, refl, ap, ◌∙◌, subst, eqb, not-suc-le-zero, ⊎_elim, arith}
use Rattle.std.specs.List.{list_any}
use Rattle.std.proofs.lemmas.List.{set-get_or}
use Rattle.std.proofs.lemmas.Option.{slice_get-get_or}
use Rattle.std.proofs.lemmas.Bool.Decides.{eqb_tells}
use Rattle.collections.proofs.Edits.{changed_front}
use Rattle.edit_apply.specs.declared.Edit.{Edit}
use Rattle.edit_post.specs.Post.{PostId, Sender, after_send}
use Rattle.guild_posts.specs.Posts.{pass_of_guild, request_of, sent_all, AreSent, post_of, ArePasses, has_sent_all, IsRefusedBySome}
use Rattle.edit_post.specs.declared.send_refused.SendRefused.{SendRefused}
use Rattle.edit_post.specs.declared.send_refused.SendRefused.TheVariants.{Spent, Memory}

abbrev Sending : Type 0
Sending = ℕ × Edit

set_here : (xs : List Sender) (k : ℕ) (y : Sender) → k < length xs → slice_get (set xs k y) k ≡ Some y
set_here [] k y lt = absurd (not-suc-le-zero lt)
set_here (x ∷ xs) zero y lt = refl
set_here (x ∷ xs) (suc k) y lt = set_here xs k y (omega (arith, lt))

set_there : (xs : List Sender) (k q : ℕ) (y : Sender) → k ≢ q → slice_get (set xs k y) q ≡ slice_get xs q
set_there [] k q y n = refl
set_there (x ∷ xs) zero zero y n = absurd (n refl)
set_there (x ∷ xs) zero (suc q) y n = refl
set_there (x ∷ xs) (suc k) zero y n = refl
set_there (x ∷ xs) (suc k) (suc q) y n = set_there xs k q y (λ e. n (ap suc e))

unsent : (o : Option Sender) → o ≡ option_map (λ s. sent_all s []) o
unsent None = refl
unsent (Some s) = refl

-- what one pass more has sent
one_more : (w : Sending) (xs : List Sender) (k : ℕ) (y d : Sender) → k < length xs → y ≡ after_send (get_or xs k d) (request_of (get_or xs k d) w)
    → (q : ℕ) → slice_get (set xs k y) q ≡ option_map (λ s. sent_all s (cond (eqb k q) (w ∷ []) [])) (slice_get xs q)
one_more w xs k y d lt e q = ⊎_elim here there (eqb_tells k q)
  where
    here : (eqb k q ≡ true) × (k ≡ q) → slice_get (set xs k y) q ≡ option_map (λ s. sent_all s (cond (eqb k q) (w ∷ []) [])) (slice_get xs q)
    here t =
        subst (λ b. slice_get (set xs k y) q ≡ option_map (λ s. sent_all s (cond b (w ∷ []) [])) (slice_get xs q)) (sym t.0)
        (subst (λ p. slice_get (set xs k y) p ≡ option_map (λ s. sent_all s (w ∷ [])) (slice_get xs p)) t.1
        (set_here xs k y lt ∙ ap Some e ∙ sym (ap (option_map (λ s. sent_all s (w ∷ []))) (slice_get-get_or xs k d lt))))

    there : (eqb k q ≡ false) × (k ≢ q) → slice_get (set xs k y) q ≡ option_map (λ s. sent_all s (cond (eqb k q) (w ∷ []) [])) (slice_get xs q)
    there t =
        subst (λ b. slice_get (set xs k y) q ≡ option_map (λ s. sent_all s (cond b (w ∷ []) [])) (slice_get xs q)) (sym t.0)
        (set_there xs k q y t.1 ∙ unsent (slice_get xs q))

-- an edit of a guild that goes by the pass at a place
one_sent : (guilds : List ℕ) (w : Sending) (xs : List Sender) (k : ℕ) (y d : Sender) → k ≡ pass_of_guild guilds (length xs) w.0 → k < length xs
    → y ≡ after_send (get_or xs k d) (request_of (get_or xs k d) w) → AreSent guilds (w ∷ []) xs (set xs k y)
one_sent guilds w xs k y d is lt e q =
    one_more w xs k y d lt e q
    ∙ ap (λ (n : ℕ). option_map (λ s. sent_all s (cond (n == q) (w ∷ []) [])) (slice_get xs q)) is

or_true : (b : Bool) → (b || true) ≡ true
or_true true = refl
or_true false = refl

any_at : (xs : List Sender) (k : ℕ) (d : Sender) → k < length xs → has_sent_all (get_or xs k d) ≡ true → list_any has_sent_all xs ≡ true
any_at [] k d lt e = absurd (not-suc-le-zero lt)
any_at (x ∷ xs) zero d lt e = ap (λ b. b || list_any has_sent_all xs) e
any_at (x ∷ xs) (suc k) d lt e = ap (λ b. has_sent_all x || b) (any_at xs k d (omega (arith, lt)) e) ∙ or_true (has_sent_all x)

-- why the pass at a place refuses a request
refused_at : (xs : List Sender) (k : ℕ) (d : Sender) (refused : SendRefused) → k < length xs → (refused ≡ Spent → has_sent_all (get_or xs k d) ≡ true) → IsRefusedBySome xs refused
refused_at xs k d Spent lt h = any_at xs k d lt (h refl)
refused_at xs k d Memory lt h = tt

-- an edit of a guild that goes by the pass at a place, and what comes of it
pub edit_sent : (guilds : List ℕ) (w : Sending) (xs : List Sender) (k : ℕ) (x y : Sender) (r : Result (Unit {0}) SendRefused)
    → k ≡ pass_of_guild guilds (length xs) w.0 → k < length xs → x ≡ get_or xs k x → MatchResult r (λ _. y ≡ after_send x (request_of x w)) (λ _. y ≡ x) → (r ≡ Err Spent → has_sent_all x ≡ true)
    → MatchResult r (λ _. AreSent guilds (w ∷ []) xs (set xs k y)) (λ refused. (set xs k y ≡ xs) × IsRefusedBySome (set xs k y) refused)
edit_sent guilds w xs k x y (Ok u) is lt here h spent = one_sent guilds w xs k y x is lt (h ∙ ap (λ s. after_send s (request_of s w)) here)
edit_sent guilds w xs k x y (Err refused) is lt here h spent =
    let same : set xs k y ≡ xs = ap (set xs k) (h ∙ here) ∙ set-get_or xs k x in
    (same, subst (λ ys. IsRefusedBySome ys refused) (sym same) (refused_at xs k x refused lt (λ e. ap has_sent_all (sym here) ∙ spent (ap (λ f. Err f) e))))

-- a pass by its place
pub many : (posts : List PostId) (xs : List Sender) → ArePasses posts xs → length xs ≡ length posts
many posts xs p = sym (mapped xs) ∙ ap length p.posts_are
  where
    mapped : (ys : List Sender) → length (map post_of ys) ≡ length ys
    mapped [] = refl
    mapped (y ∷ ys) = ap suc (mapped ys)

pub post_at : (posts : List PostId) (xs : List Sender) (k : ℕ) (d : Sender) (p : PostId) → ArePasses posts xs → k < length xs → (get_or xs k d).post ≡ get_or posts k p
post_at posts xs k d p passes lt = subst (λ ps. (get_or xs k d).post ≡ get_or ps k p) passes.posts_are (at xs k lt)
  where
    at : (ys : List Sender) (j : ℕ) → j < length ys → (get_or ys j d).post ≡ get_or (map post_of ys) j p
    at [] j l = absurd (not-suc-le-zero l)
    at (y ∷ ys) zero l = refl
    at (y ∷ ys) (suc j) l = at ys j (omega (arith, l))

-- what is not changed yet is as it was
pub at_front : (f : Sender → Sender) (xs : List Sender) (k : ℕ) (d : Sender) → k < length xs → get_or (changed_front f k xs) k d ≡ get_or xs k d
at_front f [] k d lt = absurd (not-suc-le-zero lt)
at_front f (x ∷ xs) zero d lt = refl
at_front f (x ∷ xs) (suc k) d lt = at_front f xs k d (omega (arith, lt))
