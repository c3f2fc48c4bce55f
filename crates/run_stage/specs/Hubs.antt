-- The hubs of guilds, of which nobody has published or looked.
use Rattle.std.specs.Prelude.{◌≡◌, ℕ, List, [], false, map, length, All}
use Rattle.std.specs.List.{AllZip}
use Rattle.std.specs.Global.{Vec}
use Rattle.guild_hub.specs.Sights.{Seeing, Fits, seeing, unseen, watching}
use Rattle.guild_hub.specs.Writes.{Publishing}

-- a writer of this guild's hub, whose log is empty, beside the guild's id
pub record IsNewWriter (guild : ℕ) (w : ℕ × Publishing) : Type 0 where
  pub beside : w.0 ≡ guild
  pub of_guild : w.1.log.hub.guild ≡ guild
  pub empty : w.1.log.entries ≡ []
  pub unsealed : w.1.log.sealed ≡ false
  pub unspent : w.1.spent ≡ false

-- a reader of the same hub that has not looked, beside the same id
abbrev pub new_reader : ℕ × Publishing → ℕ × Seeing
new_reader w = (w.0, seeing (unseen w.1.log.hub) w.1.log [] (watching w.1.mark []))

-- the reader of a writer's hub stands beside the same id
pub record IsReaderOf (w : ℕ × Publishing) (r : ℕ × Seeing) : Type 0 where
  pub beside : r.0 ≡ w.0
  pub hub : r.1.log.hub ≡ w.1.log.hub

-- a reader beside the id of its hub's guild, whose last segment is a part of the log that it knows
abbrev pub IsOwnReader : ℕ × Seeing → Type 0
IsOwnReader r = (r.1.log.hub.guild ≡ r.0) × Fits r.1.last r.1.log

-- the list has these readers
abbrev pub Has : List (ℕ × Seeing) → Vec (ℕ × Seeing) → Type 0
Has readers list = list.items ≡ readers

-- so many lists, each with a reader of each of these writers' hubs that has not looked, in their order
pub record HasReaders (places : ℕ) (writers : List (ℕ × Publishing)) (readers : List (Vec (ℕ × Seeing))) : Type 0 where
  pub lists : length readers ≡ places
  pub each_has : All (Has (map new_reader writers)) readers

-- a new writer for each of these guilds, in their order, and so many lists of readers
pub record HasHubs (guilds : List ℕ) (places : ℕ) (writers : List (ℕ × Publishing)) (readers : List (Vec (ℕ × Seeing))) : Type 0 where
  pub writers_are : AllZip IsNewWriter guilds writers
  pub readers_are : HasReaders places writers readers
