-- Guilds in a list of what belongs to guilds.
use Rattle.std.specs.Prelude.{◌≡◌, ℕ, ◌==◌, Bool, false, List, [], ◌∷◌, map}
use Rattle.std.specs.List.{list_any}

-- the guilds of these things, in order
abbrev pub guilds_of : {T : Type 0} → List (ℕ × T) → List ℕ
guilds_of things = map (λ t. t.0) things

-- whether the guild stands in the list
abbrev pub has_guild : ℕ → List ℕ → Bool
has_guild guild guilds = list_any (λ g. g == guild) guilds

-- no guild stands there twice
abbrev pub AreDistinct : List ℕ → Type 0
AreDistinct [] = Unit {0}
AreDistinct (g ∷ gs) = (has_guild g gs ≡ false) × AreDistinct gs
