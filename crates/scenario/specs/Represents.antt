-- Which servers the code's server represents.
use Rattle.std.specs.Prelude.{◌≡◌, ℕ, ◌+◌, ◌==◌, List, [], ◌∷◌, ◌++◌, length, map, flat_map, drop, nat_eq, nat_lt, Bool, false, Option, Some, None, if◌then◌else◌, true}
use Rattle.std.specs.List.{list_any}
use Rattle.indexmap.specs.IndexMap.{get}
use Rattle.collections.specs.ById.{find_id, put_all}
use Rattle.guild_model.specs.Record.{own_id}
use Rattle.dispatch_types.specs.Fold.{contains}
use Rattle.edit_apply.specs.Edits.{after, state}
use Rattle.edit_apply.specs.declared.Edit.{Edit}
use Rattle.edit_text.specs.declared.line.Line.{Line}
use Rattle.world_law.specs.Model.{Worker}
use Rattle.world_law.specs.World.{Step, base_of, kept_entries, stepped}
use Rattle.world_law.specs.Inputs.{Input, Look, Rebase, Open, Frame, Lost, Closed, Tick, taken, outputs}
use Rattle.world_law.specs.Outputs.{Output}
use Rattle.world_law.specs.Spent.{spends}
use Rattle.worker_core.specs.declared.io.Input.{Input as Given}
use Rattle.worker_core.specs.declared.io.Input.TheVariants as given
use Rattle.worker_core.specs.InCode.{wire_text, wire_model}
use Rattle.worker_core.specs.Outputs.{all_written}
use Rattle.worker_core.specs.Represents.{FaultBy}
use Rattle.worker_core.specs.Represents.{Represents as WorkerRepresents}
use Rattle.worker_core.specs.declared.io.StepFault.{StepFault}
use Rattle.worker_core.specs.declared.io.Output.{Output as Written}
use Rattle.scenario.specs.declared.guild_log.GuildLog.{GuildLog}
use Rattle.scenario.specs.declared.worker_slot.Cursor.{Cursor}
use Rattle.scenario.specs.declared.worker_slot.WorkerSlot.{WorkerSlot}
use Rattle.scenario.specs.declared.server.Answer.{Answer}
use Rattle.scenario.specs.declared.server.Server.{Server as KeptServer}
use Rattle.scenario.specs.Server.{Server, world, step_of, noted, with_line, line_sends, given as given_to, for_worker, step_spends, given_sends, given_spends}
use Rattle.scenario.specs.Transcript.{line_refusal, line_lag}

-- a log with the record after it, and its latest entries
abbrev pub log_with : ℕ → List Edit → GuildLog
log_with g es = record { guild = state g es; count = length es; latest = drop (base_of es) es }

-- how many of so many kept entries are removed as one more comes
abbrev pub over : ℕ → ℕ
over n = if nat_lt n kept_entries then 0 else 1

-- a log with one entry more, but for that entry among the latest
abbrev pub counted_in : GuildLog → Edit → GuildLog
counted_in l e = record {
  guild = after l.guild e;
  count = l.count + 1;
  latest = drop (over (length l.latest)) l.latest;
}

abbrev pub added : GuildLog → Edit → GuildLog
added l e = record (counted_in l e) { latest = drop (over (length l.latest)) l.latest ++ e ∷ [] }

abbrev pub log_of : Server → ℕ → Option GuildLog
log_of p g = if contains g p.guilds then Some (log_with g ((world p).logs g)) else None

abbrev pub cursor_id : Cursor → ℕ
cursor_id c = c.guild

abbrev pub cursor_value : Option Cursor → ℕ
cursor_value None = 0
cursor_value (Some c) = c.at

-- how many entries of a guild's log the worker of a slot was given
abbrev pub cursor_at : ℕ → List Cursor → ℕ
cursor_at g cursors = cursor_value (find_id cursor_id g cursors)

-- a slot represents a worker of this number and these guilds
pub record SlotRepresents (gs : List ℕ) (n : ℕ) (k : WorkerSlot) (w : Worker) : Type 0 where
  pub number : w.core.worker ≡ n
  pub guilds : w.logs.guilds ≡ gs
  pub worker : WorkerRepresents k.worker w
  pub cursors : (g : ℕ) → cursor_at g k.cursors ≡ length (w.logs.seen g)

abbrev pub SlotsRepresent : List ℕ → ℕ → List WorkerSlot → List Worker → Type 0
SlotsRepresent guilds n [] [] = Unit {0}
SlotsRepresent guilds n [] (w ∷ ws) = ⊥
SlotsRepresent guilds n (k ∷ ks) [] = ⊥
SlotsRepresent guilds n (k ∷ ks) (w ∷ ws) = SlotRepresents guilds n k w × SlotsRepresent guilds (n + 1) ks ws

abbrev pub guilds_of : Server → List ℕ
guilds_of p = put_all own_id [] p.guilds

-- the slots of the world's workers
abbrev pub HasSlots : List WorkerSlot → Server → Type 0
HasSlots slots p = SlotsRepresent (guilds_of p) 0 slots (world p).workers

-- the slots are filled with the first step
abbrev pub HasSlotsOnceStepped : List WorkerSlot → Server → Type 0
HasSlotsOnceStepped [] p = length p.steps ≡ 0
HasSlotsOnceStepped (k ∷ ks) p = ((length p.steps == 0) ≡ false) × HasSlots (k ∷ ks) p

pub record Keeps (k : KeptServer) (p : Server) : Type 0 where
  pub bots : k.bots ≡ p.bots
  pub guilds : k.guilds ≡ p.guilds
  pub used : k.used ≡ p.used
  pub logs : (g : ℕ) → get nat_eq k.logs g ≡ log_of p g

-- before or after any line
pub record Represents (k : KeptServer) (p : Server) : Type 0 where
  pub keeps : Keeps k p
  pub slots : HasSlotsOnceStepped k.slots.items p

-- there are slots
abbrev pub IsFull : List WorkerSlot → Type 0
IsFull [] = ⊥
IsFull (k ∷ ks) = Unit {0}

-- ---- what a step leaves of a slot, and of all

abbrev pub is_look : Input → Bool
is_look (Look g es) = true
is_look (Rebase g log) = true
is_look (Open conn) = false
is_look (Frame conn text) = false
is_look (Lost conn) = false
is_look (Closed conn code) = false
is_look (Tick now) = false

-- what is given that is no look
abbrev pub calm_of : Given → Option Input
calm_of (given.Look guild entries) = None
calm_of (given.Rebase guild base basis entries) = None
calm_of (given.Open conn) = Some (Open conn)
calm_of (given.Frame conn text) = Some (Frame conn text)
calm_of (given.Lost conn) = Some (Lost conn)
calm_of (given.Closed conn code) = Some (Closed conn code)
calm_of (given.Tick now) = Some (Tick now)

abbrev pub SlotSteps : List ℕ → ℕ → Worker → Input → WorkerSlot → List Written → Type 0
SlotSteps guilds number w i new out = SlotRepresents guilds number new (taken wire_model w i) × ((out ≡ all_written (outputs wire_model w i)) × (spends wire_model w i ≡ false))

abbrev pub SlotFails : Worker → Input → StepFault → Type 0
SlotFails w i fault = FaultBy (spends wire_model w i) fault

abbrev pub moved : Worker → Option Input → Worker
moved w None = w
moved w (Some i) = taken wire_model w i

-- workers, each with what is given to it
abbrev pub all_moved : (Worker → Option Input) → List Worker → List Worker
all_moved f ws = map (λ w. moved w (f w)) ws

abbrev pub all_sends : (Worker → Option Input) → List Worker → List Output
all_sends f ws = flat_map (λ w. given_sends w (f w)) ws

abbrev pub any_spends : (Worker → Option Input) → List Worker → Bool
any_spends f ws = list_any (λ w. given_spends w (f w)) ws

abbrev pub SlotsStep : List ℕ → (Worker → Option Input) → List Worker → List WorkerSlot → List Written → Type 0
SlotsStep guilds f ws new out = SlotsRepresent guilds 0 new (all_moved f ws) × ((out ≡ all_written (all_sends f ws)) × (any_spends f ws ≡ false))

abbrev pub SlotsFail : (Worker → Option Input) → List Worker → StepFault → Type 0
SlotsFail f ws fault = FaultBy (any_spends f ws) fault

-- what the step of a line leaves, and what goes out
abbrev pub Plays : Server → Line → KeptServer → List Written → Type 0
Plays p line new out = Represents new (with_line p line) × ((out ≡ line_sends p line) × (step_spends (world p) (step_of p line) ≡ false))

-- and the answer to it
abbrev pub Answers : Server → Line → KeptServer → Answer → Type 0
Answers p line new a = (a.refusal ≡ line_refusal p line) × ((a.lagged ≡ line_lag p line) × Plays p line new a.outputs.items)

-- a line that gives one worker an input, and leaves all else
pub record Gives (p : Server) (line : Line) (worker : ℕ) (i : Input) : Type 0 where
  pub step : Step
  pub is_step : step_of p line ≡ Some step
  pub notes : noted p line ≡ p
  pub gives : given_to (world p) step ≡ for_worker worker i
  pub logs : (stepped wire_text (world p) step).logs ≡ (world p).logs

abbrev pub PlaysNot : Server → Line → StepFault → Type 0
PlaysNot p line fault = FaultBy (step_spends (world p) (step_of p line)) fault
