-- The bots and guilds that a file declares.
use Rattle.std.specs.Prelude.{◌≡◌, ℕ, List, [], ◌∷◌, Bool, true, false, if◌then◌else◌, flat_map}
use Rattle.std.specs.List.{list_all}
use Rattle.edit_text.specs.declared.line.Line.{Line}
use Rattle.edit_text.specs.declared.line.Line.TheVariants.{Bot, Guild, Edit, Look, Open, Frame, Lost, Closed, Tick}
use Rattle.session_core.specs.declared.bot.Bot.{Bot as ABot}

abbrev pub is_head_line : Line → Bool
is_head_line (Bot token user name privileged v items bytes) = true
is_head_line (Guild id) = true
is_head_line (Edit guild edit) = false
is_head_line (Look worker guild) = false
is_head_line (Open worker conn) = false
is_head_line (Frame conn text) = false
is_head_line (Lost conn) = false
is_head_line (Closed conn code) = false
is_head_line (Tick worker now) = false

-- the lines before the first step line
abbrev pub head_of : List Line → List Line
head_of [] = []
head_of (line ∷ lines) = if is_head_line line then line ∷ head_of lines else []

abbrev pub AreHeads : List Line → Type 0
AreHeads lines = list_all is_head_line lines ≡ true

-- the bot and the guild of a line
abbrev pub bot_in : Line → List ABot
bot_in (Bot token user name privileged v items bytes) =
    record { token = token; user = user; name = name; privileged = privileged; ring_items = items; ring_bytes = bytes } ∷ []
bot_in _ = []

abbrev pub guild_in : Line → List ℕ
guild_in (Guild id) = id ∷ []
guild_in _ = []

-- these are the bots and guilds of the lines before the first step line, in order, as often as they stand there
abbrev pub Declares : List Line → List ABot → List ℕ → Type 0
Declares lines bots guilds = (bots ≡ flat_map bot_in (head_of lines)) × (guilds ≡ flat_map guild_in (head_of lines))
