-- internal: cited by private functions only. What an actor holds while it takes requests.
use Rattle.std.specs.Prelude.{◌≡◌, ℕ, ◌<◌, Bool, true, false, Result, Ok, IsErr, List, map, length, slice_index_or, slice_set}
use Rattle.edit_apply.specs.declared.Edit.{Edit}
use Rattle.edit_post.specs.declared.request.Request.{Request}
use Rattle.guild_hub.specs.Logs.{Published, published, with_entry, with_seal}
use Rattle.guild_hub.specs.declared.writer.HubRefused.{HubRefused}
use Rattle.guild_hub.specs.declared.writer.HubRefused.TheVariants.{Full, Memory}
use Rattle.guild_hub.specs.Writes.{Publishing, publishing}
use Rattle.guild_actor.specs.Acts.{most, entries_of, strays_of, full_of, counted}
use Rattle.guild_places.specs.Places.{guilds_of}

pub record Holding : Type 0 where
  pub writers : List (ℕ × Publishing)
  pub strays : ℕ
  pub full : ℕ

abbrev pub holding : List (ℕ × Publishing) → ℕ → ℕ → Holding
holding writers strays full = record { writers = writers; strays = strays; full = full }

-- a writer whose log has the entries of these requests
abbrev pub writer_after : List Request → ℕ × Publishing → ℕ × Publishing
writer_after requests w = (w.0, publishing (published w.1.log.hub (entries_of w.0 requests) false) w.1.mark false)

-- what is held after these requests, of writers of empty logs
abbrev pub held_after : List (ℕ × Publishing) → List Request → Holding
held_after writers requests = holding (map (writer_after requests) writers) (counted (strays_of (guilds_of writers) requests)) (counted (full_of (guilds_of writers) requests))

abbrev pub logs_of : List (ℕ × Publishing) → List (ℕ × Published)
logs_of writers = map (λ (w : ℕ × Publishing). (w.0, w.1.log)) writers

-- a writer's log with its seal
abbrev pub log_sealed : ℕ × Publishing → ℕ × Published
log_sealed w = (w.0, with_seal w.1.log)

-- a writer that took an edit, or did not
abbrev pub edited : Bool → Edit → ℕ × Publishing → ℕ × Publishing
edited true edit w = (w.0, publishing (with_entry w.1.log edit) w.1.mark false)
edited false edit w = w

abbrev pub HasRoom : Bool → Published → Type 0
HasRoom true log = length log.entries < most
HasRoom false log = length log.entries ≡ most

-- the writer at a place took an edit exactly if its log had room
abbrev pub Publishes : List (ℕ × Publishing) → ℕ → Edit → Bool → List (ℕ × Publishing) → Type 0
Publishes old place edit added new =
    (d : ℕ × Publishing) → (new ≡ slice_set old place (edited added edit (slice_index_or old place d))) × HasRoom added (slice_index_or old place d).1.log

-- what is answered where an edit is refused
abbrev pub Tells : {F : Type 0} → HubRefused → Result Bool F → Type 0
Tells Full r = r ≡ Ok false
Tells Memory r = IsErr r
