-- The logs of the guilds at the end of a run.
use Rattle.std.specs.Prelude.{◌≡◌, ℕ, ◌%◌, ◌==◌, true, List, map, take, IsSomeAnd, Some}
use Rattle.std.specs.List.{position}
use Rattle.edit_apply.specs.declared.Edit.{Edit}
use Rattle.edit_post.specs.Merge.{Merge}
use Rattle.guild_hub.specs.Logs.{Published, GoesOn}
use Rattle.guild_hub.specs.Sights.{Seeing}
use Rattle.guild_actor.specs.Acts.{most}
use Rattle.load_settle.specs.Readers.{log_under}
use Rattle.run_ends.specs.Senders.{edits_for}

-- a guild's sealed log: one order of the edits for that guild that the senders sent, in which those of each sender
-- keep their order; what is past the most entries of a log is not in it
pub record IsMergedLog (senders : List (List (ℕ × Edit))) (log : ℕ × Published) : Type 0 where
  pub merged : List Edit
  pub merge : Merge (map (edits_for log.0) senders) merged
  pub entries : log.1.entries ≡ take most merged
  pub sealed : log.1.sealed ≡ true

-- what the reader knew of its log goes on to the log under its guild
abbrev pub HasPart : List (ℕ × Published) → ℕ × Seeing → Type 0
HasPart logs reader = IsSomeAnd (log_under reader.0 logs) (GoesOn reader.1.log)

-- the guild's actor is the one with this place
abbrev pub IsOfActor : List ℕ → ℕ → ℕ → ℕ → Type 0
IsOfActor guilds count actor guild = (place : ℕ) × (position (λ g. guild == g) guilds ≡ Some place) × ((place % count == actor) ≡ true)
