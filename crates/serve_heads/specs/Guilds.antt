-- Guilds, each once.
use Rattle.std.specs.Prelude.{ℕ, List, [], ◌∷◌, ◌++◌, if◌then◌else◌, fold}
use Rattle.guild_places.specs.Places.{has_guild}

-- the guilds, and behind them one that does not stand there yet
abbrev pub with_guild : List ℕ → ℕ → List ℕ
with_guild guilds g = if has_guild g guilds then guilds else guilds ++ g ∷ []

-- each guild once, at its first place
abbrev pub each_once : List ℕ → List ℕ
each_once guilds = fold with_guild [] guilds
