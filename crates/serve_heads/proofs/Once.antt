-- Guilds, each once.
use Rattle.std.proofs.Common.{◌≡◌, ◌≢◌, ℕ, ◌==◌, ◌||◌, Bool, true, false, cond, if◌then◌else◌, List, [], ◌∷◌, ◌++◌, fold, take, length, get_or, ◌<◌, ◌+◌, eqb, refl, sym, ap, ap₂, ◌∙◌, ⊎_elim}
use Rattle.std.specs.List.{list_any}
use Rattle.std.proofs.lemmas.List.{take_more}
use Rattle.std.proofs.lemmas.List.Folds.{list_any-append}
use Rattle.std.proofs.lemmas.List.Sums.{fold-append}
use Rattle.std.proofs.lemmas.Bool.Decides.{Decides-eqb, eqb_tells}
use Rattle.guild_places.specs.Places.{has_guild, AreDistinct}
use Rattle.guild_places.proofs.Guilds.{differs, apart, first_of, rest_of}
use Rattle.serve_heads.specs.Guilds.{with_guild, each_once}

turned : (a b : ℕ) → (a == b) ≡ (b == a)
turned a b = ⊎_elim
    (λ (t : (eqb a b ≡ true) × (a ≡ b)). t.0 ∙ sym ((Decides-eqb b a).1 (sym t.1)))
    (λ (t : (eqb a b ≡ false) × (a ≢ b)). t.0 ∙ sym (differs b a (λ same. t.1 (sym same)))) (eqb_tells a b)

-- whether a guild stands there, asked the other way round
asked : (g : ℕ) (guilds : List ℕ) → list_any (λ k. g == k) guilds ≡ has_guild g guilds
asked g [] = refl
asked g (k ∷ ks) = ap₂ (λ a b. a || b) (turned g k) (asked g ks)

-- what an index does with one more guild
pub inserted : (g : ℕ) (guilds : List ℕ) → cond (list_any (λ k. g == k) guilds) guilds (guilds ++ g ∷ []) ≡ with_guild guilds g
inserted g guilds = ap (λ b. cond b guilds (guilds ++ g ∷ [])) (asked g guilds)

-- with one more of the guilds that are added
pub one_more : (start more : List ℕ) (i d : ℕ) → i < length more → with_guild (fold with_guild start (take i more)) (get_or more i d) ≡ fold with_guild start (take (i + 1) more)
one_more start more i d lt =
    sym (ap (fold with_guild start) (take_more more i d lt) ∙ fold-append with_guild start (take i more) (get_or more i d ∷ []))

-- guilds behind guilds
pub once_more : (front back : List ℕ) → each_once (front ++ back) ≡ fold with_guild (each_once front) back
once_more front back = fold-append with_guild [] front back

-- one guild more that does not stand there
distinct_longer : (guilds : List ℕ) (g : ℕ) → AreDistinct guilds → has_guild g guilds ≡ false → AreDistinct (guilds ++ g ∷ [])
distinct_longer [] g distinct none = (refl, tt)
distinct_longer (k ∷ ks) g distinct none =
    let other : (k == g) ≡ false = first_of (k == g) (has_guild g ks) none in
    let other' : (g == k) ≡ false = differs g k (λ same. apart g k other (sym same)) in (
      list_any-append (λ h. h == k) ks (g ∷ []) ∙ ap₂ (λ a b. a || (b || false)) distinct.0 other',
      distinct_longer ks g distinct.1 (rest_of (k == g) (has_guild g ks) none),
    )

distinct_with : (guilds : List ℕ) (g : ℕ) → AreDistinct guilds → AreDistinct (with_guild guilds g)
distinct_with guilds g distinct = by (has_guild g guilds) refl
  where
    by : (b : Bool) → has_guild g guilds ≡ b → AreDistinct (if b then guilds else guilds ++ g ∷ [])
    by true there = distinct
    by false none = distinct_longer guilds g distinct none

distinct_after : (guilds more : List ℕ) → AreDistinct guilds → AreDistinct (fold with_guild guilds more)
distinct_after guilds [] distinct = distinct
distinct_after guilds (g ∷ more) distinct = distinct_after (with_guild guilds g) more (distinct_with guilds g distinct)

-- no guild stands there twice
pub once_is_distinct : (guilds : List ℕ) → AreDistinct (each_once guilds)
once_is_distinct guilds = distinct_after [] guilds tt
