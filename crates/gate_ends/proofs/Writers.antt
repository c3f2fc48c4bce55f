-- The logs of the writers of a run, in the order of the guilds.
use Rattle.std.proofs.Common.{◌≡◌, ℕ, true, List, [], ◌∷◌, map, refl, ap₂}
use Rattle.std.specs.List.{AllZip}
use Rattle.collections.specs.ById.{IsById, AllAbove}
use Rattle.edit_post.specs.declared.request.Request.{Request}
use Rattle.guild_hub.specs.Logs.{Published}
use Rattle.guild_hub.specs.Writes.{Publishing}
use Rattle.guild_actor.specs.Acts.{sealed_log}
use Rattle.guild_places.specs.Places.{guilds_of}
use Rattle.run_ends.specs.Lists.{woven}

abbrev pub Writer : Type 0
Writer = ℕ × Publishing

abbrev pub Log : Type 0
Log = ℕ × Published

abbrev pub guild_of : Log → ℕ
guild_of log = log.0

-- the sealed log of a writer's hub, under the same guild
abbrev pub IsSealedOf : Writer → Log → Type 0
IsSealedOf w l = (l.0 ≡ w.0) × (l.1.hub ≡ w.1.log.hub) × (l.1.sealed ≡ true)

-- the sealed logs of two actors in turn are those of their writers in turn
module _ (taken0 taken1 : List Request) where
  sealed_of : (taken : List Request) (ws : List Writer) → AllZip IsSealedOf ws (map (sealed_log taken) ws)
  sealed_of taken [] = tt
  sealed_of taken (w ∷ ws) = ((refl, refl, refl), sealed_of taken ws)

  pub all_sealed : (ws vs : List Writer) → AllZip IsSealedOf (woven ws vs) (woven (map (sealed_log taken0) ws) (map (sealed_log taken1) vs))
  all_sealed [] vs = sealed_of taken1 vs
  all_sealed (w ∷ ws) [] = ((refl, refl, refl), sealed_of taken0 ws)
  all_sealed (w ∷ ws) (v ∷ vs) = ((refl, refl, refl), ((refl, refl, refl), all_sealed ws vs))

-- they are of the same guilds
pub guilds_same : (ws : List Writer) (ls : List Log) → AllZip IsSealedOf ws ls → guilds_of ls ≡ guilds_of ws
guilds_same [] [] h = refl
guilds_same [] (l ∷ ls) h = elim h [ ]
guilds_same (w ∷ ws) [] h = elim h [ ]
guilds_same (w ∷ ws) (l ∷ ls) h = ap₂ (λ g gs. g ∷ gs) h.0.0 (guilds_same ws ls h.1)

-- ---- the guilds ascend

abbrev pub itself : ℕ → ℕ
itself n = n

logs_above : (id : ℕ) (ls : List Log) → AllAbove itself id (guilds_of ls) → AllAbove guild_of id ls
logs_above id [] h = tt
logs_above id (l ∷ ls) h = (h.0, logs_above id ls h.1)

pub logs_ascend : (ls : List Log) → IsById itself (guilds_of ls) → IsById guild_of ls
logs_ascend [] h = tt
logs_ascend (l ∷ ls) h = (logs_above l.0 ls h.0, logs_ascend ls h.1)
