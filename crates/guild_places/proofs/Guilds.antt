-- Guilds by their places.
use Rattle.std.proofs.Common.{◌≡◌, ◌≢◌, ℕ, zero, suc, ◌+◌, ◌<◌, ◌==◌, ◌||◌, Bool, true, false, Option, Some, None, is_some, MatchOption, List, [], ◌∷◌, ◌++◌, take, length, cond, get_or, eqb, not-suc-le-zero, true≢false, sym, refl, ap, ap₂, ◌∙◌, ⊎_elim, arith}
use Rattle.std.specs.List.{position, list_any}
use Rattle.std.proofs.lemmas.List.Quantifiers.{position-Some}
use Rattle.std.proofs.lemmas.List.{take_more}
use Rattle.std.proofs.lemmas.Bool.Decides.{Decides-eqb, eqb_tells}
use Rattle.guild_places.specs.Places.{guilds_of, has_guild, AreDistinct}

pub differs : (a b : ℕ) → a ≢ b → (a == b) ≡ false
differs a b n = ⊎_elim (λ (t : (eqb a b ≡ true) × (a ≡ b)). absurd (n t.1)) (λ (t : (eqb a b ≡ false) × (a ≢ b)). t.0) (eqb_tells a b)

by_test : (a b : ℕ) → (a == b) ≡ true → a ≡ b
by_test a b e = ⊎_elim (λ (t : (eqb a b ≡ true) × (a ≡ b)). t.1) (λ (t : (eqb a b ≡ false) × (a ≢ b)). absurd (true≢false (sym e ∙ t.0))) (eqb_tells a b)

turned : (a b : ℕ) → (a == b) ≡ (b == a)
turned a b = ⊎_elim
    (λ (t : (eqb a b ≡ true) × (a ≡ b)). t.0 ∙ sym ((Decides-eqb b a).1 (sym t.1)))
    (λ (t : (eqb a b ≡ false) × (a ≢ b)). t.0 ∙ sym (differs b a (λ same. t.1 (sym same)))) (eqb_tells a b)

-- whether a guild stands there, asked the other way round
asked : (guild : ℕ) (gs : List ℕ) → list_any (λ g. guild == g) gs ≡ has_guild guild gs
asked guild [] = refl
asked guild (g ∷ gs) = ap₂ (λ a b. a || b) (turned guild g) (asked guild gs)

-- another guild
pub apart : (guild g : ℕ) → (g == guild) ≡ false → g ≢ guild
apart guild g e same = ⊎_elim (λ (t : (eqb g guild ≡ true) × (g ≡ guild)). absurd (true≢false (sym t.0 ∙ e))) (λ (t : (eqb g guild ≡ false) × (g ≢ guild)). absurd (t.1 same)) (eqb_tells g guild)

pub first_of : (b c : Bool) → (b || c) ≡ false → b ≡ false
first_of false c e = refl
first_of true c e = absurd (true≢false e)

pub rest_of : (b c : Bool) → (b || c) ≡ false → c ≡ false
rest_of false c e = e
rest_of true c e = absurd (true≢false e)

-- a guild that stands there is none that does not
pub unlike : (g : ℕ) (gs : List ℕ) (place d : ℕ) → has_guild g gs ≡ false → place < length gs → get_or gs place d ≢ g
unlike g [] place d none lt same = absurd (not-suc-le-zero lt)
unlike g (x ∷ xs) zero d none lt same = apart g x (first_of (x == g) (has_guild g xs) none) same
unlike g (x ∷ xs) (suc place) d none lt same = unlike g xs place d (rest_of (x == g) (has_guild g xs) none) (omega (arith, lt)) same

-- a guild is none of those before it
none_before : (gs : List ℕ) (i d : ℕ) → AreDistinct gs → i < length gs → has_guild (get_or gs i d) (take i gs) ≡ false
none_before [] i d distinct lt = absurd (not-suc-le-zero lt)
none_before (g ∷ gs) zero d distinct lt = refl
none_before (g ∷ gs) (suc i) d distinct lt =
    ap₂ (λ a b. a || b) (differs g (get_or gs i d) (λ same. unlike g gs i d distinct.0 (omega (arith, lt)) (sym same))) (none_before gs i d distinct.1 (omega (arith, lt)))

-- the place that a search finds
pub place_found : (gs : List ℕ) (guild : ℕ) (o : Option ℕ) → o ≡ position (λ g. guild == g) gs → is_some o ≡ list_any (λ g. guild == g) gs
    → MatchOption o (has_guild guild gs ≡ false) (λ place. (place < length gs) × ((d : ℕ) → get_or gs place d ≡ guild))
place_found gs guild None at is = sym (asked guild gs) ∙ sym is
place_found gs guild (Some place) at is = (
  (position-Some (λ g. guild == g) gs place 0 (sym at)).0,
  λ d. sym (by_test guild (get_or gs place d) (position-Some (λ g. guild == g) gs place d (sym at)).1),
)

-- the guilds so far with one more
pub appended : (gs : List ℕ) (i d : ℕ) (keys : List ℕ) (guild : ℕ) → AreDistinct gs → i < length gs → keys ≡ take i gs → guild ≡ get_or gs i d
    → cond (list_any (λ g. guild == g) keys) keys (keys ++ guild ∷ []) ≡ take (i + 1) gs
appended gs i d keys guild distinct lt ks at =
    ap (λ b. cond b keys (keys ++ guild ∷ [])) (asked guild keys)
    ∙ rw (ks, at) (ap (λ b. cond b (take i gs) (take i gs ++ get_or gs i d ∷ [])) (none_before gs i d distinct lt) ∙ sym (take_more gs i d lt))

module _ {T : Type 0} where
  pub many : (ts : List (ℕ × T)) → length (guilds_of ts) ≡ length ts
  many [] = refl
  many (t ∷ ts) = ap suc (many ts)

  -- a guild by its place
  pub guild_of_place : (ts : List (ℕ × T)) (place : ℕ) (d : ℕ) (y : ℕ × T) → place < length ts → get_or (guilds_of ts) place d ≡ (get_or ts place y).0
  guild_of_place [] place d y lt = absurd (not-suc-le-zero lt)
  guild_of_place (t ∷ ts) zero d y lt = refl
  guild_of_place (t ∷ ts) (suc place) d y lt = guild_of_place ts place d y (omega (arith, lt))
