-- internal: cited by private functions only
-- What a look at a hub gives.
use Rattle.std.specs.Prelude.{◌≡◌, ℕ, [], ◌∷◌, true, Some}
use Rattle.guild_hub.specs.Sights.{Seeing, has_quit}
use Rattle.world_law.specs.Inputs.{Input}
use Rattle.worker_core.specs.Outputs.{IsGiven}
use Rattle.worker_run.specs.declared.looks.Seen.{Seen}
use Rattle.worker_run.specs.Hubs.{Reads, IsReader, HasSeenAll}
use Rattle.worker_run.specs.Turns.{looked_at}

-- one input about the reader's guild, which goes on where the reader stopped
pub record Looks (seen : Seen) (old new : ℕ × Seeing) : Type 0 where
  pub input : Input
  pub is_given : IsGiven seen.input input
  pub about : looked_at input ≡ Some old.0
  pub reads : Reads (input ∷ []) old new
  pub reader : IsReader new
  pub sealed : seen.sealed ≡ true → HasSeenAll new
  pub quit : seen.quit ≡ true → has_quit new.1 ≡ true
