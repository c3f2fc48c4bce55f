-- What an actor publishes of the requests that it takes.
use Rattle.std.specs.Prelude.{◌≡◌, ℕ, ◌+◌, ◌-◌, ◌^◌, ◌==◌, true, false, not, min, List, [], ◌∷◌, map, take, length}
use Rattle.std.specs.List.{filter}
use Rattle.guild_places.specs.Places.{has_guild}
use Rattle.edit_apply.specs.declared.Edit.{Edit}
use Rattle.edit_post.specs.declared.request.Request.{Request}
use Rattle.guild_hub.specs.Logs.{Published, published}
use Rattle.guild_hub.specs.Writes.{Publishing, publishing}

-- the edits of a guild among these requests, in order
abbrev pub edits_of : ℕ → List Request → List Edit
edits_of guild requests = map (λ (r : Request). r.edit) (filter (λ (r : Request). r.guild == guild) requests)

-- the most entries of a log
abbrev pub most : ℕ
most = 2 ^ 53 - 1

-- the entries of a guild's log: the first of its edits, as many as a log may have
abbrev pub entries_of : ℕ → List Request → List Edit
entries_of guild requests = take most (edits_of guild requests)

-- how many edits of a guild come after those
abbrev pub refused_of : ℕ → List Request → ℕ
refused_of guild requests = length (edits_of guild requests) - most

-- how many requests are for none of these guilds
abbrev pub strays_of : List ℕ → List Request → ℕ
strays_of guilds requests = length (filter (λ (r : Request). not (has_guild r.guild guilds)) requests)

-- how many requests find the log of their guild full
abbrev pub full_of : List ℕ → List Request → ℕ
full_of [] requests = 0
full_of (g ∷ gs) requests = refused_of g requests + full_of gs requests

-- a count that stands still at the end of its type
abbrev pub counted : ℕ → ℕ
counted n = min n (2 ^ 64 - 1)

abbrev pub new_writer : ℕ × Publishing → ℕ × Publishing
new_writer w = (w.0, publishing (published w.1.log.hub [] false) w.1.mark false)

-- the logs are empty, without a seal, and their writers may publish
abbrev pub AreNew : List (ℕ × Publishing) → Type 0
AreNew writers = writers ≡ map new_writer writers

-- a guild's log with the entries of these requests and its seal
abbrev pub sealed_log : List Request → ℕ × Publishing → ℕ × Published
sealed_log requests w = (w.0, published w.1.log.hub (entries_of w.0 requests) true)
