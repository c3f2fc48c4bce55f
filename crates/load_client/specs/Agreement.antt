-- How many of a client's views are what the client may hold of sealed records.
use Rattle.std.specs.Prelude.{◌≡◌, ◌⊎◌, ℕ, suc, List, [], ◌∷◌}
use Rattle.guild_model.specs.Record.{Record}
use Rattle.dispatch_types.specs.declared.viewer.Viewer.{Viewer}
use Rattle.dispatch_types.specs.Projection.{projection}
use Rattle.client_cache.specs.Cached.{Cached, held_of}

-- what is held of the record's guild is the record's projection to the viewer and the known users
abbrev pub Agrees : Viewer → Cached → Record → Type 0
Agrees v c s = (held_of c s.id).view ≡ projection s v (held_of c s.id).known

-- so many of these records agree
abbrev pub AgreeSo : Viewer → Cached → List Record → ℕ → Type 0
AgreeSo v c [] n = n ≡ 0
AgreeSo v c (s ∷ ss) n =
    (m : ℕ) × (AgreeSo v c ss m × ((Agrees v c s × (n ≡ suc m)) ⊎ ((Agrees v c s → ⊥) × (n ≡ m))))
