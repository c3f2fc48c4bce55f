-- A cache as a list of guilds, and what it holds of each.
use Rattle.std.specs.Prelude.{◌≡◌, ℕ, List, [], true, Option, Some, None, is_some, unwrap_or, if◌then◌else◌}
use Rattle.collections.specs.ById.{find_id, has_id, put_id}
use Rattle.guild_model.specs.Record.{own_id}
use Rattle.client_cache.specs.declared.held.HeldGuild.{HeldGuild}
use Rattle.dispatch_types.specs.declared.dispatch.Dispatch.{Dispatch}
use Rattle.dispatch_types.specs.Fold.{Held, if_unavailable, known_after, view_after, on_open, purged}

pub record Cached : Type 0 where
  pub intents : ℕ
  pub bot : ℕ
  pub guilds : List HeldGuild

abbrev pub held_id : HeldGuild → ℕ
held_id h = h.id

-- what is held of a guild, by its entry, if there is one
abbrev pub held_by : ℕ → Option HeldGuild → Held
held_by bot None = record { bot = bot; view = None; known = [] }
held_by bot (Some h) = record { bot = bot; view = h.view; known = h.known }

abbrev pub held_in : ℕ → List HeldGuild → ℕ → Held
held_in bot guilds g = held_by bot (find_id held_id g guilds)

abbrev pub held_of : Cached → ℕ → Held
held_of c g = held_in c.bot c.guilds g

-- the entry of a guild of which nothing is held
abbrev pub empty_entry : ℕ → HeldGuild
empty_entry g = record { id = g; view = None; known = [] }

-- the entry of a guild, empty if there is none
abbrev pub entry_of : ℕ → List HeldGuild → HeldGuild
entry_of g guilds = unwrap_or (find_id held_id g guilds) (empty_entry g)

-- the entries while that of a guild is taken out, and an empty one stands in its place
abbrev pub taken_out : ℕ → List HeldGuild → List HeldGuild
taken_out g guilds =
    if has_id held_id g guilds then put_id held_id (empty_entry g) guilds else guilds

-- the entry of a guild that READY names
abbrev pub unavailable_entry : ℕ → ℕ → HeldGuild
unavailable_entry intents g = record { id = g; view = if_unavailable intents true; known = [] }

-- an entry after a dispatch of its guild
abbrev pub entry_after : ℕ → ℕ → Dispatch → HeldGuild → HeldGuild
entry_after intents bot d h = record h {
  view = view_after intents bot d h.view;
  known = known_after d h.known;
}

-- an entry without the threads that the bot does not see
abbrev pub entry_purged : HeldGuild → HeldGuild
entry_purged h = record h { view = on_open (purged 0 h.id) h.view }

-- exactly the guilds with a view are listed
abbrev pub AreViewed : List ℕ → List HeldGuild → Type 0
AreViewed viewed guilds = (g : ℕ) → has_id own_id g viewed ≡ is_some (held_in 0 guilds g).view
