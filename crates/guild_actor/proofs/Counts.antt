-- How the counts of strays and of full logs go on with a request.
use Rattle.std.proofs.Common.{◌≡◌, ◌≢◌, ℕ, zero, suc, ◌+◌, ◌-◌, ◌<◌, ◌==◌, Bool, true, false, not, List, [], ◌∷◌, ◌++◌, length, cond, get_or, not-suc-le-zero, add-zero, sym, refl, ap, ap₂, ◌∙◌, subst, arith, length-append}
use Rattle.std.specs.List.{filter}
use Rattle.std.proofs.lemmas.List.Elements.{filter-append}
use Rattle.edit_post.specs.declared.request.Request.{Request}
use Rattle.guild_actor.specs.Acts.{refused_of, most, strays_of, full_of}
use Rattle.guild_places.specs.Places.{has_guild, AreDistinct}
use Rattle.guild_places.proofs.Guilds.{apart, unlike, first_of, rest_of}
use Rattle.guild_actor.proofs.Edits.{edits_other}

one : (b : Bool) (r : Request) → length (cond (not b) (r ∷ []) []) ≡ cond b 0 1
one true r = refl
one false r = refl

strays_more : (guilds : List ℕ) (rs : List Request) (r : Request) → strays_of guilds (rs ++ r ∷ []) ≡ strays_of guilds rs + cond (has_guild r.guild guilds) 0 1
strays_more guilds rs r =
    ap length (filter-append (λ (q : Request). not (has_guild q.guild guilds)) rs (r ∷ []))
    ∙ length-append (filter (λ (q : Request). not (has_guild q.guild guilds)) rs) (filter (λ (q : Request). not (has_guild q.guild guilds)) (r ∷ []))
    ∙ ap (λ n. strays_of guilds rs + n) (one (has_guild r.guild guilds) r)

pub strays_none : (guilds : List ℕ) (rs : List Request) (r : Request) → has_guild r.guild guilds ≡ true → strays_of guilds (rs ++ r ∷ []) ≡ strays_of guilds rs
strays_none guilds rs r e = strays_more guilds rs r ∙ ap (λ b. strays_of guilds rs + cond b 0 1) e ∙ add-zero (strays_of guilds rs)

pub strays_one : (guilds : List ℕ) (rs : List Request) (r : Request) → has_guild r.guild guilds ≡ false → strays_of guilds (rs ++ r ∷ []) ≡ strays_of guilds rs + 1
strays_one guilds rs r e = strays_more guilds rs r ∙ ap (λ b. strays_of guilds rs + cond b 0 1) e

refused_other : (g : ℕ) (rs : List Request) (r : Request) → g ≢ r.guild → refused_of g (rs ++ r ∷ []) ≡ refused_of g rs
refused_other g rs r n = ap (λ l. length l - most) (edits_other g rs r n)

-- a request for none of the guilds
pub full_stays : (guilds : List ℕ) (rs : List Request) (r : Request) → has_guild r.guild guilds ≡ false → full_of guilds (rs ++ r ∷ []) ≡ full_of guilds rs
full_stays [] rs r e = refl
full_stays (g ∷ gs) rs r e =
    ap₂ (λ a b. a + b) (refused_other g rs r (apart r.guild g (first_of (g == r.guild) (has_guild r.guild gs) e))) (full_stays gs rs r (rest_of (g == r.guild) (has_guild r.guild gs) e))

-- a request whose guild refuses so many more
pub full_more : (guilds : List ℕ) (rs : List Request) (r : Request) (place d n : ℕ) → AreDistinct guilds → place < length guilds → get_or guilds place d ≡ r.guild
    → refused_of r.guild (rs ++ r ∷ []) ≡ refused_of r.guild rs + n → full_of guilds (rs ++ r ∷ []) ≡ full_of guilds rs + n
full_more [] rs r place d n distinct lt at more = absurd (not-suc-le-zero lt)
full_more (g ∷ gs) rs r zero d n distinct lt at more =
    let one : refused_of g (rs ++ r ∷ []) ≡ refused_of g rs + n = subst (λ k. refused_of k (rs ++ r ∷ []) ≡ refused_of k rs + n) (sym at) more in
    let rest : full_of gs (rs ++ r ∷ []) ≡ full_of gs rs = full_stays gs rs r (subst (λ k. has_guild k gs ≡ false) at distinct.0) in
    omega (arith, one, rest)
full_more (g ∷ gs) rs r (suc place) d n distinct lt at more =
    let other : refused_of g (rs ++ r ∷ []) ≡ refused_of g rs = refused_other g rs r (λ e. unlike g gs place d distinct.0 (omega (arith, lt)) (at ∙ sym e)) in
    let rest : full_of gs (rs ++ r ∷ []) ≡ full_of gs rs + n = full_more gs rs r place d n distinct.1 (omega (arith, lt)) at more in
    omega (arith, other, rest)
