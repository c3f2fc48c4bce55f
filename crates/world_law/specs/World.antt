-- The logs of guilds and the workers that follow them, and what a list of steps makes of them.
use Rattle.std.specs.Prelude.{ℕ, ◌-◌, List, [], ◌∷◌, Bool, ◌==◌, if◌then◌else◌, length, map, drop, nat_lt}
use Rattle.dispatch_types.specs.declared.dispatch.Dispatch.{Dispatch}
use Rattle.edit_apply.specs.declared.Edit.{Edit}
use Rattle.session_core.specs.declared.bot.Bot.{Bot}
use Rattle.world_law.specs.Model.{Worker, in_model, first_worker, seen_with}
use Rattle.world_law.specs.Inputs.{Input, Look, Rebase, Open, Frame, Lost, Closed, Tick, taken}

pub record World : Type 0 where
  pub logs : ℕ → List Edit
  pub workers : List Worker

-- an atomic step: one entry of a log, or an input of the worker of a number
pub data Step : Type 0 where
  Edits : (guild : ℕ) (edit : Edit) → Step
  Looks : (worker guild : ℕ) → Step
  Opens : (worker conn : ℕ) → Step
  Frames : (worker conn : ℕ) (text : List ℕ) → Step
  Loses : (worker conn : ℕ) → Step
  Leaves : (worker conn code : ℕ) → Step
  Ticks : (worker now : ℕ) → Step

-- a log keeps its latest entries, this many
abbrev pub kept_entries : ℕ
kept_entries = 4096

-- how many entries come before those that are kept
abbrev pub base_of : List Edit → ℕ
base_of log = length log - kept_entries

-- a look lags if not all entries after its cursor are kept
abbrev pub lags : List Edit → ℕ → Bool
lags log cursor = nat_lt cursor (base_of log)

-- a look at a log: at the entries after the cursor; if it lags, the worker takes over the whole log
abbrev pub look_at : ℕ → List Edit → ℕ → Input
look_at g log cursor = if lags log cursor then Rebase g log else Look g (drop cursor log)

-- the worker of this number, moved
abbrev pub at_worker : ℕ → (Worker → Worker) → World → World
at_worker n f m = record m { workers = map (λ (w : Worker). if w.core.worker == n then f w else w) m.workers }

module _ (text : ℕ → Dispatch → List ℕ) where
  abbrev pub stepped : World → Step → World
  stepped m (Edits g e) = record m { logs = seen_with m.logs g e }
  stepped m (Looks n g) = at_worker n (λ w. taken (in_model text) w (look_at g (m.logs g) (length (w.logs.seen g)))) m
  stepped m (Opens n conn) = at_worker n (λ w. taken (in_model text) w (Open conn)) m
  stepped m (Frames n conn frame) = at_worker n (λ w. taken (in_model text) w (Frame conn frame)) m
  stepped m (Loses n conn) = at_worker n (λ w. taken (in_model text) w (Lost conn)) m
  stepped m (Leaves n conn code) = at_worker n (λ w. taken (in_model text) w (Closed conn code)) m
  stepped m (Ticks n now) = at_worker n (λ w. taken (in_model text) w (Tick now)) m

  abbrev pub run : World → List Step → World
  run m [] = m
  run m (s ∷ ss) = run (stepped m s) ss

-- a first worker by its number and its URL
abbrev pub first_of : List Bot → List ℕ → ℕ × List ℕ → Worker
first_of bots guilds place = first_worker bots guilds place.0 place.1

abbrev pub first_world : List Bot → List ℕ → List (ℕ × List ℕ) → World
first_world bots guilds places = record { logs = λ g. []; workers = map (first_of bots guilds) places }
