-- The guilds of a load.
use Rattle.std.specs.Prelude.{ℕ, List, map}
use Rattle.std.specs.List.{range_with_len}
use Rattle.load_maker.specs.Edits.{guild_id}

-- the ids of the guilds of a load, ascending
abbrev pub guild_ids : List ℕ
guild_ids = map guild_id (range_with_len 1 8)
