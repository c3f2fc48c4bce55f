-- internal: cited by private functions only
-- What a worker looks at, lets in and asks in the parts of a turn.
use Rattle.std.specs.Prelude.{◌≡◌, ℕ, ◌≤◌, List, [], ◌∷◌, true, Option, Some, None, IfSome, slice_get}
use Rattle.std.specs.List.{list_any}
use Rattle.gate_outside.specs.Doors.{DoorTale}
use Rattle.open_links.specs.Courses.{Events, Opens}
use Rattle.open_links.specs.Calls.{MovesBy}
use Rattle.guild_hub.specs.Sights.{Seeing, has_quit}
use Rattle.world_law.specs.Inputs.{Input}
use Rattle.worker_core.specs.Outputs.{IsGiven}
use Rattle.worker_run.specs.declared.looks.Seen.{Seen}
use Rattle.worker_run.specs.Hubs.{AllRead, HasSeenAll}
use Rattle.guild_places.specs.Places.{guilds_of}
use Rattle.worker_run.specs.Turns.{looked_at}
use Rattle.worker_run.specs.Moves.{Serving, CountsLinks}

-- a look by the reader at a place: one input about its guild, which goes on where it stopped
pub record Sees (place : ℕ) (seen : Seen) (old new : List (ℕ × Seeing)) : Type 0 where
  pub input : Input
  pub is_given : IsGiven seen.input input
  pub guild : ℕ
  pub about : looked_at input ≡ Some guild
  pub at_place : slice_get (guilds_of old) place ≡ Some guild
  pub reads : AllRead (input ∷ []) old new
  pub sealed : seen.sealed ≡ true → IfSome (slice_get new place) HasSeenAll
  pub quit : seen.quit ≡ true → list_any (λ (r : ℕ × Seeing). has_quit r.1) new ≡ true

-- what happens to a connection that is let in
abbrev pub opening : Option ℕ → Events
opening None = []
opening (Some conn) = (conn, Opens) ∷ []

-- a connection is let in, or none is
pub record LetsIn (conn : Option ℕ) (old new : Serving) (old_door new_door : DoorTale) : Type 0 where
  pub same : new ≡ record old { links = new.links; ended = new.ended }
  pub links : MovesBy (opening conn) old.links new.links
  pub counts : CountsLinks old new old_door new_door
  pub within : new.links.count ≤ new_door.given
  pub ended : new.ended ≡ true → new_door.ended ≡ true
  pub returned : new_door.returned ≡ old_door.returned
