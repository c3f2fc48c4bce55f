-- What the actor holds when one request more was delivered.
use Rattle.std.proofs.Common.{◌≡◌, ℕ, zero, suc, ◌+◌, ◌-◌, ◌^◌, ◌<◌, ◌==◌, ◌||◌, min, Bool, true, false, cond, List, [], ◌∷◌, ◌++◌, map, length, get_or, set, not-suc-le-zero, sym, refl, ap, ◌∙◌, subst, arith}
use Rattle.std.proofs.lemmas.Bool.Decides.{Decides-eqb}
use Rattle.edit_post.specs.declared.request.Request.{Request}
use Rattle.guild_hub.specs.Logs.{published, with_entry}
use Rattle.guild_hub.specs.Writes.{publishing}
use Rattle.guild_actor.specs.Acts.{entries_of, refused_of, most, strays_of, full_of, counted, new_writer}
use Rattle.guild_places.specs.Places.{has_guild, guilds_of, AreDistinct}
use Rattle.guild_actor.specs.Desks.{Holding, holding, writer_after, held_after, edited, Publishes}
use Rattle.guild_actor.proofs.Edits.{entries_room, refused_room, entries_full, refused_full}
use Rattle.guild_actor.proofs.Counts.{strays_none, strays_one, full_stays, full_more}
use Rattle.guild_actor.proofs.Writers.{Writer, stays, one_more, guilds_after, new_after}
use Rattle.guild_places.proofs.Guilds.{many, guild_of_place}

-- a count that goes on
pub counted_more : (n : ℕ) → min (counted n + 1) (2 ^ 64 - 1) ≡ counted (n + 1)
counted_more n = omega arith

pub writer_at : (rs : List Request) (ws : List Writer) (place : ℕ) (d y : Writer) → place < length ws → get_or (map (writer_after rs) ws) place d ≡ writer_after rs (get_or ws place y)
writer_at rs [] place d y lt = absurd (not-suc-le-zero lt)
writer_at rs (w ∷ ws) zero d y lt = refl
writer_at rs (w ∷ ws) (suc place) d y lt = writer_at rs ws place d y (omega (arith, lt))

has_at : (gs : List ℕ) (place d : ℕ) (g : ℕ) → place < length gs → get_or gs place d ≡ g → has_guild g gs ≡ true
has_at [] place d g lt at = absurd (not-suc-le-zero lt)
has_at (x ∷ xs) zero d g lt at = ap (λ b. b || has_guild g xs) ((Decides-eqb x g).1 at)
has_at (x ∷ xs) (suc place) d g lt at = ap (λ b. (x == g) || b) (has_at xs place d g (omega (arith, lt)) at) ∙ or_true (x == g)
  where
    or_true : (b : Bool) → (b || true) ≡ true
    or_true true = refl
    or_true false = refl

pub many_after : (rs : List Request) (ws : List Writer) → length (map (writer_after rs) ws) ≡ length ws
many_after rs [] = refl
many_after rs (w ∷ ws) = ap suc (many_after rs ws)

held : (ws : List Writer) (rs : List Request) (writers : List Writer) (strays full : ℕ)
    → writers ≡ map (writer_after rs) ws → strays ≡ counted (strays_of (guilds_of ws) rs) → full ≡ counted (full_of (guilds_of ws) rs) → holding writers strays full ≡ held_after ws rs
held ws rs writers strays full a b c = rw (a, b, c) refl

module _ (ws : List Writer) (rs : List Request) (r : Request) where
  abbrev now : List Request
  now = rs ++ r ∷ []

  -- a request for no guild of these
  pub stray : has_guild r.guild (guilds_of (map (writer_after rs) ws)) ≡ false
      → holding (map (writer_after rs) ws) (min (counted (strays_of (guilds_of ws) rs) + 1) (2 ^ 64 - 1)) (counted (full_of (guilds_of ws) rs)) ≡ held_after ws now
  stray none =
      let no : has_guild r.guild (guilds_of ws) ≡ false = subst (λ gs. has_guild r.guild gs ≡ false) (guilds_after rs ws) none in
      held ws now (map (writer_after rs) ws) (min (counted (strays_of (guilds_of ws) rs) + 1) (2 ^ 64 - 1)) (counted (full_of (guilds_of ws) rs))
      (stays rs r ws no)
      (counted_more (strays_of (guilds_of ws) rs) ∙ ap counted (sym (strays_one (guilds_of ws) rs r no)))
      (ap counted (sym (full_stays (guilds_of ws) rs r no)))

  module _ (place d : ℕ) (y : Writer) (distinct : AreDistinct (guilds_of ws)) (lt : place < length ws) (at : get_or (guilds_of ws) place d ≡ r.guild) where
    own : (get_or ws place y).0 ≡ r.guild
    own = sym (guild_of_place ws place d y lt) ∙ at

    within : place < length (guilds_of ws)
    within = omega (arith, lt, many ws)

    no_stray : counted (strays_of (guilds_of ws) rs) ≡ counted (strays_of (guilds_of ws) now)
    no_stray = ap counted (sym (strays_none (guilds_of ws) rs r (has_at (guilds_of ws) place d r.guild within at)))

    more : (n : ℕ) → refused_of (get_or ws place y).0 now ≡ refused_of (get_or ws place y).0 rs + n → full_of (guilds_of ws) now ≡ full_of (guilds_of ws) rs + n
    more n e = full_more (guilds_of ws) rs r place d n distinct within at (subst (λ g. refused_of g now ≡ refused_of g rs + n) own e)

    -- a request whose log has room
    pub room : y ≡ ((get_or ws place y).0, publishing (with_entry (writer_after rs (get_or ws place y)).1.log r.edit) (get_or ws place y).1.mark false) → length (entries_of (get_or ws place y).0 rs) < most
        → holding (set (map (writer_after rs) ws) place y) (counted (strays_of (guilds_of ws) rs)) (counted (full_of (guilds_of ws) rs)) ≡ held_after ws now
    room is low =
        let w : Writer = get_or ws place y in
        held ws now (set (map (writer_after rs) ws) place y) (counted (strays_of (guilds_of ws) rs)) (counted (full_of (guilds_of ws) rs))
        (one_more rs r ws place d y distinct lt at (is ∙ ap (λ l. (w.0, publishing (published w.1.log.hub l false) w.1.mark false)) (sym (entries_room w.0 rs r own low))))
        no_stray
        (ap counted (sym (more 0 (refused_room w.0 rs r own low ∙ omega arith) ∙ omega arith)))

    -- a request whose log is full
    pub full : y ≡ writer_after rs (get_or ws place y) → length (entries_of (get_or ws place y).0 rs) ≡ most
        → holding (set (map (writer_after rs) ws) place y) (counted (strays_of (guilds_of ws) rs)) (min (counted (full_of (guilds_of ws) rs) + 1) (2 ^ 64 - 1)) ≡ held_after ws now
    full is high =
        let w : Writer = get_or ws place y in
        held ws now (set (map (writer_after rs) ws) place y) (counted (strays_of (guilds_of ws) rs)) (min (counted (full_of (guilds_of ws) rs) + 1) (2 ^ 64 - 1))
        (one_more rs r ws place d y distinct lt at (is ∙ ap (λ l. (w.0, publishing (published w.1.log.hub l false) w.1.mark false)) (sym (entries_full w.0 rs r own high))))
        no_stray
        (counted_more (full_of (guilds_of ws) rs) ∙ ap counted (sym (more 1 (refused_full w.0 rs r own high))))

full_none : (gs : List ℕ) → full_of gs [] ≡ 0
full_none [] = refl
full_none (g ∷ gs) = omega (arith, full_none gs)

-- before the first request
pub begun : (ws : List Writer) → ws ≡ map new_writer ws → holding ws 0 0 ≡ held_after ws []
begun ws e = held ws [] ws 0 0 (e ∙ new_after ws) refl (sym (ap counted (full_none (guilds_of ws))))

abbrev pub last : ℕ
last = 2 ^ 64 - 1

-- a request for no guild of these, whatever is held
pub stray_of : (ws : List Writer) (rs : List Request) (r : Request) (h : Holding) → h ≡ held_after ws rs → has_guild r.guild (guilds_of h.writers) ≡ false
    → (n : ℕ) → n ≡ min (h.strays + 1) last → holding h.writers n h.full ≡ held_after ws (rs ++ r ∷ [])
stray_of ws rs r h e =
    subst (λ (k : Holding). has_guild r.guild (guilds_of k.writers) ≡ false → (n : ℕ) → n ≡ min (k.strays + 1) last → holding k.writers n k.full ≡ held_after ws (rs ++ r ∷ [])) (sym e)
    (λ none n at. rw at (stray ws rs r none))

one_edit : (ws : List Writer) (rs : List Request) (r : Request) (place : ℕ) (d : Writer) → AreDistinct (guilds_of ws) → place < length ws → get_or (guilds_of ws) place 0 ≡ r.guild
    → (added : Bool) (new : List Writer) → Publishes (map (writer_after rs) ws) place r.edit added new
    → (n : ℕ) → n ≡ cond added (counted (full_of (guilds_of ws) rs)) (min (counted (full_of (guilds_of ws) rs) + 1) last) → holding new (counted (strays_of (guilds_of ws) rs)) n ≡ held_after ws (rs ++ r ∷ [])
one_edit ws rs r place d distinct lt at true new p n e =
    let y : Writer = edited true r.edit (get_or (map (writer_after rs) ws) place d) in
    let here : get_or (map (writer_after rs) ws) place d ≡ writer_after rs (get_or ws place y) = writer_at rs ws place d y lt in
    rw ((p d).0, e) (room ws rs r place 0 y distinct lt at (ap (edited true r.edit) here) (subst (λ (w : Writer). length w.1.log.entries < most) here (p d).1))
one_edit ws rs r place d distinct lt at false new p n e =
    let y : Writer = get_or (map (writer_after rs) ws) place d in
    let here : y ≡ writer_after rs (get_or ws place y) = writer_at rs ws place d y lt in
    rw ((p d).0, e) (full ws rs r place 0 y distinct lt at here (subst (λ (w : Writer). length w.1.log.entries ≡ most) here (p d).1))

-- a request for the guild at a place, whatever is held
pub edit_of : (ws : List Writer) (rs : List Request) (r : Request) (h : Holding) → h ≡ held_after ws rs → AreDistinct (guilds_of h.writers)
    → (place : ℕ) → place < length h.writers → ((d : ℕ) → get_or (guilds_of h.writers) place d ≡ r.guild)
    → (added : Bool) (new : List Writer) → Publishes h.writers place r.edit added new → (n : ℕ) → n ≡ cond added h.full (min (h.full + 1) last) → holding new h.strays n ≡ held_after ws (rs ++ r ∷ [])
edit_of ws rs r h e =
    subst (λ (k : Holding). AreDistinct (guilds_of k.writers) → (place : ℕ) → place < length k.writers → ((d : ℕ) → get_or (guilds_of k.writers) place d ≡ r.guild)
    → (added : Bool) (new : List Writer) → Publishes k.writers place r.edit added new → (n : ℕ) → n ≡ cond added k.full (min (k.full + 1) last) → holding new k.strays n ≡ held_after ws (rs ++ r ∷ [])) (sym e)
    (of_these ws)
  where
    of_these : (vs : List Writer) → AreDistinct (guilds_of (map (writer_after rs) vs)) → (place : ℕ) → place < length (map (writer_after rs) vs) → ((d : ℕ) → get_or (guilds_of (map (writer_after rs) vs)) place d ≡ r.guild)
        → (added : Bool) (new : List Writer) → Publishes (map (writer_after rs) vs) place r.edit added new
        → (n : ℕ) → n ≡ cond added (counted (full_of (guilds_of vs) rs)) (min (counted (full_of (guilds_of vs) rs) + 1) last) → holding new (counted (strays_of (guilds_of vs) rs)) n ≡ held_after vs (rs ++ r ∷ [])
    of_these [] distinct place lt at added new p n is = absurd (not-suc-le-zero lt)
    of_these (w ∷ vs) distinct place lt at added new p n is =
        one_edit (w ∷ vs) rs r place w (subst AreDistinct (guilds_after rs (w ∷ vs)) distinct) (omega (arith, lt, many_after rs (w ∷ vs))) (ap (λ gs. get_or gs place 0) (sym (guilds_after rs (w ∷ vs))) ∙ at 0) added new p n is

-- what is held at the end, of the writers as they came
pub final : (ws : List Writer) (rs : List Request) (first later seen : Holding) → ws ≡ map new_writer ws → first ≡ held_after ws [] → later ≡ held_after first.writers rs → seen ≡ later → seen ≡ held_after ws rs
final ws rs first later seen new f l s = s ∙ l ∙ ap (λ vs. held_after vs rs) (ap (λ (h : Holding). h.writers) f ∙ sym (new_after ws) ∙ sym new)
