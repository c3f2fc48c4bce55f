-- Whether the views that a client holds have a name.
use Rattle.std.specs.Prelude.{◌≡◌, ℕ, List, map, Bool, true, false, Option, Some, None, codes}
use Rattle.std.specs.List.{list_all, range_with_len}
use Rattle.std.specs.Str.{bytes_eq}
use Rattle.dispatch_types.specs.declared.view.GuildView.{GuildView}
use Rattle.dispatch_types.specs.declared.view.GuildView.TheVariants.{Unavailable, Open}
use Rattle.client_cache.specs.Cached.{Cached, held_of}
use Rattle.load_maker.specs.Edits.{guild_id}
use Rattle.load_client.specs.declared.name_goal.NameGoal.{NameGoal}

-- a view is open with this name
abbrev pub is_named : List ℕ → Option GuildView → Bool
is_named name None = false
is_named name (Some Unavailable) = false
is_named name (Some (Open view)) = bytes_eq view.name name

-- the view that is held of each of these guilds is
abbrev pub all_named : List ℕ → List ℕ → Cached → Bool
all_named guilds name c = list_all (λ (g : ℕ). is_named name (held_of c g).view) guilds

abbrev pub AllNamed : List ℕ → List ℕ → Cached → Type 0
AllNamed guilds name c = all_named guilds name c ≡ true

-- all guilds of a load, and the name that each has at last
abbrev pub load_goal : NameGoal
load_goal = record { guilds = map guild_id (range_with_len 1 8); name = codes "end" }
