-- The bots of a load, and the URLs of its workers.
use Rattle.std.specs.Prelude.{ℕ, List, ◌++◌, map, codes, decimal}
use Rattle.std.specs.List.{range_with_len}
use Rattle.session_core.specs.declared.bot.Bot.{Bot}
use Rattle.load_maker.specs.Edits.{bot_name}

-- the bot of the head line with this number, which may ask for every privileged intent, and of which as much is
-- held for a resume as if the line says nothing of it
abbrev pub load_bot : ℕ → Bot
load_bot number = record { token = bot_name number; user = number; name = bot_name number; privileged = 33026; ring_items = 1024; ring_bytes = 4194304 }

abbrev pub load_bots : List Bot
load_bots = map load_bot (range_with_len 1 3)

-- the URL of a worker
abbrev pub worker_url : ℕ → List ℕ
worker_url worker = codes "ws://w" ++ (decimal worker ++ codes ".gate.invalid")
