-- The guilds of a run ascend, and each stands there once.
use Rattle.std.proofs.Common.{ℕ, List, []}
use Rattle.collections.specs.ById.{IsById}
use Rattle.collections.proofs.Finds.{IsById-put_all}
use Rattle.guild_places.specs.Places.{AreDistinct}
use Rattle.gate_ends.proofs.Actors.{once_each}
use Rattle.serve_run.specs.Services.{itself, ascending}

pub ascends : (guilds : List ℕ) → IsById itself (ascending guilds)
ascends guilds = IsById-put_all itself [] guilds tt

pub distinct : (guilds : List ℕ) → AreDistinct (ascending guilds)
distinct guilds = once_each (ascending guilds) (ascends guilds)
