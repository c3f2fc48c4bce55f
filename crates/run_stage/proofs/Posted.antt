-- Two posts and the passes at them.
use Rattle.std.proofs.Common.{◌≡◌, ℕ, List, [], ◌∷◌, map, length, refl, sym, ap, ap₂, subst, ◌∙◌, arith}
use Rattle.std.specs.Prelude.{Option, Some, None, option_map, slice_get}
use Rattle.std.specs.List.{range_with_len}
use Rattle.std.specs.Global.{Vec}
use Rattle.edit_post.specs.Post.{PostId, Sender, Taker, new_sender, new_taker}
use Rattle.run_ends.specs.Senders.{new_passes}
use Rattle.run_stage.specs.Dealing.{paired}
use Rattle.run_stage.specs.Posts.{IsTakerOf, HasPosts}
use Rattle.run_stage.proofs.Dealt.{paired-map}
use Rattle.run_stage.proofs.Numbered.{from_map}

-- two posts, whose senders' passes stand in pairs
pub has_posts : (n : ℕ) (first second : PostId) (posts : List PostId) (takers : Taker × Taker) (senders others : List Sender) (passes : List (Vec Sender))
    → posts ≡ first ∷ second ∷ [] → takers.0 ≡ new_taker first n → takers.1 ≡ new_taker second n
    → senders ≡ map (new_sender first) (range_with_len 0 n) → others ≡ map (new_sender second) (range_with_len 0 n)
    → map (λ (v : Vec Sender). v.items) passes ≡ paired senders others → HasPosts n posts takers passes
has_posts n first second posts takers senders others passes p t0 t1 s0 s1 e =
    let all : map (λ (v : Vec Sender). v.items) passes ≡ map (λ k. new_sender first k ∷ new_sender second k ∷ []) (range_with_len 0 n) =
    e ∙ ap₂ (λ x y. paired x y) s0 s1 ∙ paired-map (new_sender first) (new_sender second) (range_with_len 0 n) in
    subst (λ l. HasPosts n l takers passes) (sym p) (record {
      two = refl;
      first_is = ap Some (sym t0);
      second_is = ap Some (sym t1);
      passes_are = from_map (λ (v : Vec Sender). v.items) (new_passes (first ∷ second ∷ [])) 0 n passes all;
    })

at_post : (n : ℕ) (post : Option PostId) (pass : Taker) → option_map (λ p. new_taker p n) post ≡ Some pass → (post ≡ Some pass.post) × (pass.senders ≡ n) × (pass.taken ≡ [])
at_post n None pass e = absurd (cc)
at_post n (Some p) pass e =
    let same : new_taker p n ≡ pass = cc in
    subst (λ (t : Taker). (Some p ≡ Some t.post) × (t.senders ≡ n) × (t.taken ≡ [])) same (refl, refl, refl)

-- the pass of an actor is of the post at its place, has so many senders and has taken nothing
pub taker_at : (n : ℕ) (posts : List PostId) (actor : ℕ) (pass : Taker) → IsTakerOf n posts actor pass
    → (slice_get posts actor ≡ Some pass.post) × (pass.senders ≡ n) × (pass.taken ≡ [])
taker_at n posts actor pass is = at_post n (slice_get posts actor) pass is

-- the posts of the passes of both actors are the posts
pub taker_posts : (n : ℕ) (posts : List PostId) (first second : Taker) → length posts ≡ 2 → IsTakerOf n posts 0 first → IsTakerOf n posts 1 second
    → first.post ∷ second.post ∷ [] ≡ posts
taker_posts n [] first second two a b = absurd (omega arith)
taker_posts n (p ∷ []) first second two a b = absurd (omega arith)
taker_posts n (p ∷ q ∷ r ∷ rs) first second two a b = absurd (omega arith)
taker_posts n (p ∷ q ∷ []) first second two a b =
    let at_first = taker_at n (p ∷ q ∷ []) 0 first a in
    let at_second = taker_at n (p ∷ q ∷ []) 1 second b in
    let p_is : first.post ≡ p = cc (at_first.0) in
    let q_is : second.post ≡ q = cc (at_second.0) in
    ap₂ (λ x y. x ∷ y ∷ []) p_is q_is
