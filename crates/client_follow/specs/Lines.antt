-- What a client that follows a gateway writes at its end.
use Rattle.std.specs.Prelude.{◌≡◌, ℕ, List, [], ◌∷◌, ◌++◌, flat_map, length, Option, Some, None, decimal, codes}
use Rattle.collections.specs.ById.{IsById}
use Rattle.guild_model.specs.Record.{own_id}
use Rattle.dispatch_types.specs.declared.view.GuildView.{GuildView}
use Rattle.dispatch_types.specs.declared.view.GuildView.TheVariants.{Unavailable, Open}
use Rattle.client_cache.specs.Cached.{Cached, AreViewed, held_of}

abbrev pub count_line : (guild channels threads members : ℕ) → List ℕ
count_line guild channels threads members =
    codes "guild " ++ (decimal guild ++ (codes " channels " ++ (decimal channels ++ (codes " threads " ++ (decimal threads ++ (codes " members " ++ (decimal members ++ 10 ∷ [])))))))

-- the line of a guild: how many channels, threads and members the client holds of it
abbrev pub guild_line : ℕ → Option GuildView → List ℕ
guild_line guild None = []
guild_line guild (Some Unavailable) = count_line guild 0 0 0
guild_line guild (Some (Open view)) = count_line guild (length view.channels) (length view.threads) (length view.members)

-- the line of each guild of which the client holds a view, ascending
pub record AreGuildLines (c : Cached) (text : List ℕ) : Type 0 where
  pub guilds : List ℕ
  pub ascending : IsById own_id guilds
  pub viewed : AreViewed guilds c.guilds
  pub lines : text ≡ flat_map (λ (guild : ℕ). guild_line guild (held_of c guild).view) guilds

-- the line of a close after which no reconnect is allowed
abbrev pub closed_line : ℕ → List ℕ
closed_line code = codes "closed " ++ (decimal code ++ 10 ∷ [])

-- the line of a text that is no payload
abbrev pub bad_text_line : List ℕ
bad_text_line = codes "bad text" ++ 10 ∷ []
