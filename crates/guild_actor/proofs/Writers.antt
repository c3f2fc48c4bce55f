-- The writers when one request more was delivered.
use Rattle.std.proofs.Common.{◌≡◌, ◌≢◌, ℕ, zero, suc, ◌<◌, ◌==◌, false, List, [], ◌∷◌, ◌++◌, map, take, length, get_or, set, reverse, append_assoc, not-suc-le-zero, sym, refl, ap, ap₂, ◌∙◌, subst, arith}
use Rattle.std.specs.List.{All, filter}
use Rattle.std.proofs.lemmas.List.{map-append, reverse-append}
use Rattle.edit_post.specs.declared.request.Request.{Request}
use Rattle.edit_post.specs.Merge.{Merge}
use Rattle.edit_post.proofs.Merging.{filtered, mapped}
use Rattle.edit_apply.specs.declared.Edit.{Edit}
use Rattle.guild_hub.specs.Logs.{Published, published}
use Rattle.guild_hub.specs.Writes.{Publishing, publishing}
use Rattle.guild_actor.specs.Acts.{edits_of, most, new_writer, sealed_log}
use Rattle.guild_places.specs.Places.{has_guild, guilds_of, AreDistinct}
use Rattle.guild_actor.specs.Desks.{writer_after, log_sealed}
use Rattle.guild_actor.proofs.Edits.{edits_other}
use Rattle.guild_places.proofs.Guilds.{apart, first_of, rest_of, unlike, many}

abbrev pub Writer : Type 0
Writer = ℕ × Publishing

module _ (rs : List Request) (r : Request) where
  same : (w : Writer) → w.0 ≢ r.guild → writer_after rs w ≡ writer_after (rs ++ r ∷ []) w
  same w n = ap (λ l. (w.0, publishing (published w.1.log.hub (take most l) false) w.1.mark false)) (sym (edits_other w.0 rs r n))

  -- a request for another guild
  pub stays : (ws : List Writer) → has_guild r.guild (guilds_of ws) ≡ false → map (writer_after rs) ws ≡ map (writer_after (rs ++ r ∷ [])) ws
  stays [] none = refl
  stays (w ∷ ws) none = ap₂ (λ x xs. x ∷ xs) (same w (apart r.guild w.0 (first_of (w.0 == r.guild) (has_guild r.guild (guilds_of ws)) none))) (stays ws (rest_of (w.0 == r.guild) (has_guild r.guild (guilds_of ws)) none))

  -- a request for the guild at a place
  pub one_more : (ws : List Writer) (place d : ℕ) (y : Writer) → AreDistinct (guilds_of ws) → place < length ws → get_or (guilds_of ws) place d ≡ r.guild
      → y ≡ writer_after (rs ++ r ∷ []) (get_or ws place y) → set (map (writer_after rs) ws) place y ≡ map (writer_after (rs ++ r ∷ [])) ws
  one_more [] place d y distinct lt at e = absurd (not-suc-le-zero lt)
  one_more (w ∷ ws) zero d y distinct lt at e = ap₂ (λ x xs. x ∷ xs) e (stays ws (subst (λ g. has_guild g (guilds_of ws) ≡ false) at distinct.0))
  one_more (w ∷ ws) (suc place) d y distinct lt at e =
      ap₂ (λ x xs. x ∷ xs) (same w (λ q. unlike w.0 (guilds_of ws) place d distinct.0 (omega (arith, lt, many ws)) (at ∙ sym q)))
      (one_more ws place d y distinct.1 (omega (arith, lt)) at e)

pub guilds_after : (rs : List Request) (ws : List Writer) → guilds_of (map (writer_after rs) ws) ≡ guilds_of ws
guilds_after rs [] = refl
guilds_after rs (w ∷ ws) = ap (λ l. w.0 ∷ l) (guilds_after rs ws)

pub unspent_after : (rs : List Request) (ws : List Writer) → All (λ (w : Writer). w.1.spent ≡ false) (map (writer_after rs) ws)
unspent_after rs [] k d lt = absurd (not-suc-le-zero lt)
unspent_after rs (w ∷ ws) zero d lt = refl
unspent_after rs (w ∷ ws) (suc k) d lt = unspent_after rs ws k d (omega (arith, lt))

pub sealed_after : (rs : List Request) (ws : List Writer) → map log_sealed (map (writer_after rs) ws) ≡ map (sealed_log rs) ws
sealed_after rs [] = refl
sealed_after rs (w ∷ ws) = ap (λ l. sealed_log rs w ∷ l) (sealed_after rs ws)

pub new_after : (ws : List Writer) → map new_writer ws ≡ map (writer_after []) ws
new_after [] = refl
new_after (w ∷ ws) = ap (λ l. writer_after [] w ∷ l) (new_after ws)

-- a guild's edits of a merge
pub merged : (guild : ℕ) (lists : List (List Request)) (rs : List Request) → Merge lists rs → Merge (map (edits_of guild) lists) (edits_of guild rs)
merged guild lists rs m =
    subst (λ (ls : List (List Edit)). Merge ls (edits_of guild rs)) (twice lists)
    (mapped (λ (r : Request). r.edit) (map (filter (λ (r : Request). r.guild == guild)) lists) (filter (λ (r : Request). r.guild == guild) rs) (filtered (λ (r : Request). r.guild == guild) lists rs m))
  where
    twice : (ls : List (List Request)) → map (map (λ (r : Request). r.edit)) (map (filter (λ (r : Request). r.guild == guild)) ls) ≡ map (edits_of guild) ls
    twice [] = refl
    twice (l ∷ ls) = ap (λ t. edits_of guild l ∷ t) (twice ls)

-- one writer's log is sealed, from the back
pub one_seal : (old front : List Writer) (w : Writer) (logs more : List (ℕ × Published)) (x : ℕ × Published) → old ≡ front ++ w ∷ [] → more ≡ logs ++ x ∷ [] → x ≡ log_sealed w
    → map log_sealed old ++ reverse logs ≡ map log_sealed front ++ reverse more
one_seal old front w logs more x o m e =
    rw (o, m, e) (ap (λ l. l ++ reverse logs) (map-append log_sealed front (w ∷ [])) ∙ append_assoc (map log_sealed front) (log_sealed w ∷ []) (reverse logs) ∙ ap (λ l. map log_sealed front ++ l) (sym (reverse-append logs (log_sealed w ∷ []))))
