-- The two actors of a run, their posts, and the guilds of each.
use Rattle.std.proofs.Common.{◌≡◌, ◌≢◌, ℕ, ◌+◌, ◌%◌, ◌||◌, false, List, [], ◌∷◌, ◌++◌, length, Some, slice_get, refl, sym, ap, ap₂, ◌∙◌, subst, arith}
use Rattle.std.specs.List.{All, AllZip, range_with_len}
use Rattle.std.proofs.lemmas.Bool.Decides.{Decides-eqb}
use Rattle.std.proofs.lemmas.List.Elements.{All-nil, All-cons}
use Rattle.std.proofs.lemmas.Option.{same_Some}
use Rattle.collections.specs.ById.{IsById, AllAbove}
use Rattle.edit_post.specs.Post.{PostId}
use Rattle.guild_places.specs.Places.{guilds_of, has_guild, AreDistinct}
use Rattle.guild_places.proofs.Guilds.{differs}
use Rattle.run_stage.specs.Dealing.{evens, odds}
use Rattle.run_ends.specs.Logs.{IsOfActor}
use Rattle.gate_ends.proofs.Places.{AtPlaces, at_places}
use Rattle.gate_ends.proofs.Writers.{Writer, itself}

-- the two last of two are both
pub two_of : {T : Type 0} (P : ℕ → T → Type 0) (front : List T) (a b : T) → AllZip P (range_with_len 0 2) (front ++ a ∷ b ∷ []) → P 0 a × P 1 b
two_of P [] a b h = (h.0, h.1.0)
two_of P (x ∷ []) a b h = elim h.1.1 [ ]
two_of P (x ∷ y ∷ []) a b h = elim h.1.1 [ ]
two_of P (x ∷ y ∷ z ∷ front) a b h = elim h.1.1 [ ]

-- two posts
pub both_posts : (posts : List PostId) (a b : PostId) → length posts ≡ 2 → slice_get posts 0 ≡ Some a → slice_get posts 1 ≡ Some b → posts ≡ a ∷ b ∷ []
both_posts [] a b two x y = absurd (omega (arith, two))
both_posts (p ∷ []) a b two x y = absurd (omega (arith, two))
both_posts (p ∷ q ∷ []) a b two x y = ap (λ r. r ∷ q ∷ []) (same_Some p a x) ∙ ap (λ r. a ∷ r ∷ []) (same_Some q b y)
both_posts (p ∷ q ∷ r ∷ ps) a b two x y = absurd (omega (arith, two))

-- ---- guilds that ascend stand there once each

none_above : (id : ℕ) (gs : List ℕ) → AllAbove itself id gs → has_guild id gs ≡ false
none_above id [] h = refl
none_above id (g ∷ gs) h =
    let other : g ≢ id = λ same. absurd (omega (arith, same, h.0)) in
    ap₂ (λ a b. a || b) (differs g id other) (none_above id gs h.1)

pub once_each : (gs : List ℕ) → IsById itself gs → AreDistinct gs
once_each [] h = tt
once_each (g ∷ gs) h = (none_above g gs h.0, once_each gs h.1)

-- ---- every second guild is the first actor's, and the others are the second's

module _ (gs : List ℕ) where
  -- the guild of a writer is the actor's
  abbrev pub IsOf : ℕ → Writer → Type 0
  IsOf actor w = IsOfActor gs 2 actor w.0

  even_next : (k : ℕ) → k % 2 ≡ 0 → (k + 1 + 1) % 2 ≡ 0
  even_next k e = omega (arith, e)

  odd_next : (k : ℕ) → k % 2 ≡ 0 → (k + 1) % 2 ≡ 1
  odd_next k e = omega (arith, e)

  all_dealt : (k : ℕ) → k % 2 ≡ 0 → (ws : List Writer) → AtPlaces gs k (guilds_of ws) → All (IsOf 0) (evens ws) × All (IsOf 1) (odds ws)
  all_dealt k even [] h = (All-nil (IsOf 0), All-nil (IsOf 1))
  all_dealt k even (a ∷ []) h = (All-cons (IsOf 0) a [] (k, h.0, (Decides-eqb (k % 2) 0).1 even) (All-nil (IsOf 0)), All-nil (IsOf 1))
  all_dealt k even (a ∷ b ∷ ws) h =
      let more = all_dealt (k + 1 + 1) (even_next k even) ws h.1.1 in (
        All-cons (IsOf 0) a (evens ws) (k, h.0, (Decides-eqb (k % 2) 0).1 even) more.0,
        All-cons (IsOf 1) b (odds ws) (k + 1, h.1.0, (Decides-eqb ((k + 1) % 2) 1).1 (odd_next k even)) more.1,
      )

  pub of_actors : (ws : List Writer) → guilds_of ws ≡ gs → AreDistinct gs → All (IsOf 0) (evens ws) × All (IsOf 1) (odds ws)
  of_actors ws same distinct = all_dealt 0 refl ws (subst (AtPlaces gs 0) (sym same) (at_places gs distinct))
