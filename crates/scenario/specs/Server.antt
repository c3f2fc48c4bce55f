-- What the lines of a step file make of the server: at most one step of the world a line, and an edit for
-- each wish that goes out.
use Rattle.std.specs.Prelude.{ℕ, ◌==◌, List, [], ◌∷◌, ◌++◌, length, flat_map, Bool, false, Option, Some, None, option_map, if◌then◌else◌, decimal, codes}
use Rattle.std.specs.List.{list_any}
use Rattle.std.specs.Str.{bytes_eq}
use Rattle.collections.specs.ById.{find_id, has_id, put_id}
use Rattle.guild_model.specs.declared.verdict.Verdict.{Verdict}
use Rattle.guild_model.specs.declared.verdict.Verdict.TheVariants.{NotOpen}
use Rattle.dispatch_types.specs.Fold.{contains}
use Rattle.edit_apply.specs.Edits.{verdict, state}
use Rattle.edit_apply.specs.declared.Edit.{Edit as GuildEdit}
use Rattle.edit_text.specs.declared.line.Line.{Line}
use Rattle.edit_text.specs.declared.line.Line.TheVariants.{Bot, Guild, Edit, Look, Open, Frame, Lost, Closed, Tick}
use Rattle.session_core.specs.declared.bot.Bot.{Bot as KnownBot}
use Rattle.worker_core.specs.declared.io.Output.{Output as Written}
use Rattle.worker_core.specs.declared.io.Output.TheVariants.{Send, Close, Wish}
use Rattle.worker_core.specs.InCode.{wire_text, wire_model}
use Rattle.worker_core.specs.Outputs.{all_written}
use Rattle.world_law.specs.Model.{Worker}
use Rattle.world_law.specs.World.{World, Step, Edits, Looks, Opens, Frames, Loses, Leaves, Ticks, base_of, lags, look_at, run}
use Rattle.world_law.specs.Inputs.{Input, outputs}
use Rattle.world_law.specs.Outputs.{Output}
use Rattle.world_law.specs.Inputs.{Open as Opening, Frame as Framing, Lost as Losing, Closed as Leaving, Tick as Ticking}
use Rattle.world_law.specs.World.{first_world}
use Rattle.world_law.specs.Spent.{spends}
use Rattle.scenario.specs.declared.lagged.Lagged.{Lagged}
use Rattle.scenario.specs.declared.opened.Opened.{Opened}

-- the bots and guilds of the head lines, each once; the connection numbers that were used, and where; the steps so far
pub record Server : Type 0 where
  pub bots : List KnownBot
  pub guilds : List ℕ
  pub used : List Opened
  pub steps : List Step

abbrev pub first_server : Server
first_server = record { bots = []; guilds = []; used = []; steps = [] }

-- ---- the world

-- the URL of a worker
abbrev pub url : ℕ → List ℕ
url n = codes "ws://w" ++ (decimal n ++ codes ".gate.invalid")

-- four workers, by their numbers
abbrev pub first_workers : List (ℕ × List ℕ)
first_workers = (0, url 0) ∷ (1, url 1) ∷ (2, url 2) ∷ (3, url 3) ∷ []

-- what the steps so far make of the first world of these bots and guilds
abbrev pub world : Server → World
world p = run wire_text (first_world p.bots p.guilds first_workers) p.steps

abbrev pub log : Server → ℕ → List GuildEdit
log p g = (world p).logs g

-- ---- edits

-- why an edit is refused, if it is
abbrev pub refusal : Server → ℕ → GuildEdit → Option Verdict
refusal p g e = if contains g p.guilds then verdict (state g (log p g)) e else Some NotOpen

-- an edit of a guild without a head line enters no log
abbrev pub edit_step : Server → ℕ → GuildEdit → Option Step
edit_step p g e = if contains g p.guilds then Some (Edits g e) else None

abbrev pub with_step : Option Step → Server → Server
with_step None p = p
with_step (Some s) p = record p { steps = p.steps ++ s ∷ [] }

-- the server after an edit
abbrev pub edited : Server → ℕ → GuildEdit → Server
edited p g e = with_step (edit_step p g e) p

-- ---- the step of a line

abbrev pub opened_id : Opened → ℕ
opened_id o = o.number

-- on the worker of a connection, where its number was used
abbrev pub on_worker : (ℕ → Step) → ℕ → Server → Option Step
on_worker step conn p = option_map (λ (o : Opened). step o.worker) (find_id opened_id conn p.used)

-- a look at a guild without a head line, an open of a number that was used, and what comes on one that was not, are no step
abbrev pub step_of : Server → Line → Option Step
step_of p (Bot token user name privileged v items bytes) = None
step_of p (Guild id) = None
step_of p (Edit guild edit) = edit_step p guild edit
step_of p (Look worker guild) = if contains guild p.guilds then Some (Looks worker guild) else None
step_of p (Open worker conn) = if has_id opened_id conn p.used then None else Some (Opens worker conn)
step_of p (Frame conn text) = on_worker (λ worker. Frames worker conn text) conn p
step_of p (Lost conn) = on_worker (λ worker. Loses worker conn) conn p
step_of p (Closed conn code) = on_worker (λ worker. Leaves worker conn code) conn p
step_of p (Tick worker now) = Some (Ticks worker now)

-- ---- what else a line leaves

abbrev pub has_token : List ℕ → List KnownBot → Bool
has_token token bots = list_any (λ (b : KnownBot). bytes_eq b.token token) bots

abbrev pub with_bot : KnownBot → Server → Server
with_bot bot p = if has_token bot.token p.bots then p else record p { bots = p.bots ++ bot ∷ [] }

abbrev pub with_guild : ℕ → Server → Server
with_guild id p = if contains id p.guilds then p else record p { guilds = p.guilds ++ id ∷ [] }

-- head lines come before all steps: a reader gives none after them, and here it would change nothing
abbrev pub before_steps : Server → Server → Server
before_steps p changed = if length p.steps == 0 then changed else p

abbrev pub with_opened : Opened → Server → Server
with_opened o p = if has_id opened_id o.number p.used then p else record p { used = put_id opened_id o p.used }

abbrev pub noted : Server → Line → Server
noted p (Bot token user name privileged v items bytes) =
    before_steps p (with_bot (record { token = token; user = user; name = name; privileged = privileged; ring_items = items; ring_bytes = bytes }) p)
noted p (Guild id) = before_steps p (with_guild id p)
noted p (Edit guild edit) = p
noted p (Look worker guild) = p
noted p (Open worker conn) = with_opened (record { number = conn; worker = worker }) p
noted p (Frame conn text) = p
noted p (Lost conn) = p
noted p (Closed conn code) = p
noted p (Tick worker now) = p

-- the server after the step of a line
abbrev pub with_line : Server → Line → Server
with_line p line = with_step (step_of p line) (noted p line)

-- ---- what a step gives to the workers

abbrev pub for_worker : ℕ → Input → Worker → Option Input
for_worker n i w = if w.core.worker == n then Some i else None

abbrev pub given : World → Step → Worker → Option Input
given m (Edits g e) w = None
given m (Looks n g) w = for_worker n (look_at g (m.logs g) (length (w.logs.seen g))) w
given m (Opens n conn) w = for_worker n (Opening conn) w
given m (Frames n conn text) w = for_worker n (Framing conn text) w
given m (Loses n conn) w = for_worker n (Losing conn) w
given m (Leaves n conn code) w = for_worker n (Leaving conn code) w
given m (Ticks n now) w = for_worker n (Ticking now) w

abbrev pub given_sends : Worker → Option Input → List Output
given_sends w None = []
given_sends w (Some i) = outputs wire_model w i

abbrev pub given_spends : Worker → Option Input → Bool
given_spends w None = false
given_spends w (Some i) = spends wire_model w i

-- what goes out after a step
abbrev pub step_sends : World → Option Step → List Output
step_sends m None = []
step_sends m (Some s) = flat_map (λ w. given_sends w (given m s w)) m.workers

-- whether a count of a worker would go past what its type holds
abbrev pub step_spends : World → Option Step → Bool
step_spends m None = false
step_spends m (Some s) = list_any (λ w. given_spends w (given m s w)) m.workers

-- ---- looks that lag

abbrev pub worker_id : Worker → ℕ
worker_id w = w.core.worker

-- the look of a worker of this number at a guild's log, if it lags
abbrev pub lag_of : ℕ → ℕ → List GuildEdit → Option Worker → Option Lagged
lag_of n g log None = None
lag_of n g log (Some w) =
    let cursor = length (w.logs.seen g) in
    if lags log cursor then Some (record { worker = n; guild = g; base = base_of log; cursor = cursor }) else None

-- ---- what goes out

abbrev pub line_sends : Server → Line → List Written
line_sends p line = all_written (step_sends (world p) (step_of p line))

-- a wish is at once an edit of its guild
abbrev pub follow : Server → Written → Server
follow p (Send conn text) = p
follow p (Close conn code) = p
follow p (Wish guild edit) = edited p guild edit

abbrev pub followed : Server → List Written → Server
followed p [] = p
followed p (o ∷ os) = followed (follow p o) os

-- the server after a line: after its step, and the edits of all wishes that go out
abbrev pub played : Server → Line → Server
played p line = followed (with_line p line) (line_sends p line)
