-- The lines of a part of a load.
use Rattle.std.specs.Prelude.{ℕ, ◌+◌, ◌*◌, List, [], ◌∷◌, ◌++◌, map, flat_map}
use Rattle.std.specs.List.{range_with_len}
use Rattle.edit_text.specs.declared.line.Line.{Line}
use Rattle.edit_text.specs.declared.line.Line.TheVariants.{Bot, Guild, Edit}
use Rattle.load_maker.specs.Draws.{draw}
use Rattle.load_maker.specs.Edits.{guild_id, bot_name, entry}

-- guild 1 to 8
abbrev pub guild_line : ℕ → Line
guild_line number = Guild (guild_id number)

-- bot 1 to 3, which may ask for every privileged intent
abbrev pub bot_line : ℕ → Line
bot_line bot = Bot (bot_name bot) bot (bot_name bot) 33026 1 1024 4194304

unfoldable pub head : List Line
head = map guild_line (range_with_len 1 8) ++ map bot_line (range_with_len 1 3)

abbrev pub entry_line : ℕ → ℕ → ℕ → Line
entry_line seed number j = Edit (guild_id number) (entry (guild_id number) j (draw seed number j))

-- entry j of both guilds of a part, the lower guild first
abbrev pub both_lines : ℕ → ℕ → ℕ → List Line
both_lines seed part j = entry_line seed (2 * part + 1) j ∷ entry_line seed (2 * part + 2) j ∷ []

-- the head lines, then entries 0 to 1000
unfoldable pub script : ℕ → ℕ → List Line
script seed part = head ++ flat_map (both_lines seed part) (range_with_len 0 1001)
