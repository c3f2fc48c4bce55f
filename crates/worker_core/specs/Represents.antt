-- Which workers of the model a worker's value represents.
use Rattle.std.specs.Prelude.{◌≡◌, ℕ, ◌+◌, ◌-◌, ◌^◌, List, [], ◌∷◌, Bool, true, false, None, if◌then◌else◌, map, flat_map, min}
use Rattle.collections.specs.ById.{IsById}
use Rattle.guild_model.specs.Record.{own_id}
use Rattle.replay_ring.specs.Replay.{Replay}
use Rattle.session_core.specs.State.{State, Session, Condition, Attached, Detached, Ended}
use Rattle.world_law.specs.Sent.{Sent}
use Rattle.world_law.specs.Model.{Worker, replay, records_of}
use Rattle.world_law.specs.Inputs.{Input, Look, Rebase, Open, Frame, Lost, Closed, Tick, taken, outputs}
use Rattle.world_law.specs.Spent.{spends}
use Rattle.worker_core.specs.declared.io.Input.{Input as Given}
use Rattle.worker_core.specs.declared.io.Input.TheVariants as given
use Rattle.worker_core.specs.declared.io.Output.{Output as Written}
use Rattle.worker_core.specs.declared.io.StepFault.{StepFault}
use Rattle.worker_core.specs.declared.io.StepFault.TheVariants.{Spent, Memory}
use Rattle.worker_core.specs.InCode.{wire_model, wire_text, guild_of, in_code, KeptMachine, KeptWorker, kept_after}
use Rattle.worker_core.specs.Made.{ended_dispatches, live_dispatches}
use Rattle.worker_core.specs.Masks.{keep_masks}
use Rattle.worker_core.specs.Outputs.{all_written}

-- a session by what a resume needs
abbrev pub counted : Session Sent → Session Replay
counted x = record { number = x.number; token = x.token; name = x.name; viewer = x.viewer; condition = x.condition; sent = replay wire_text x.sent }

-- one that has ended is forgotten
abbrev pub kept_at : Condition → Session Sent → List (Session Replay)
kept_at (Attached conn) x = counted x ∷ []
kept_at (Detached since) x = counted x ∷ []
kept_at Ended x = []

abbrev pub kept_session : Session Sent → List (Session Replay)
kept_session x = kept_at x.condition x

abbrev pub kept : State Sent → State Replay
kept s = record { worker = s.worker; bots = s.bots; made = s.made; connections = s.connections; sessions = flat_map kept_session s.sessions }

pub record IsKept (k : KeptMachine) (w : Worker) : Type 0 where
  pub url : k.url ≡ w.url
  pub now : k.now ≡ w.now
  pub chunks : k.chunks ≡ w.chunks
  pub guilds : IsById own_id w.logs.guilds
  pub records : map guild_of k.logs ≡ records_of w.logs
  pub core : k.core ≡ kept w.core

pub record Represents (k : KeptWorker) (w : Worker) : Type 0 where
  pub goes_on : k.finished ≡ None
  pub keeps : keep_masks k.copies k.machine.core.sessions ≡ true
  pub past : k.past ≡ min (ended_dispatches w.core.sessions) (2 ^ 64 - 1)
  pub machine : IsKept k.machine w

-- a fault that says that a count is spent says so rightly
abbrev pub FaultBy : Bool → StepFault → Type 0
FaultBy spent Spent = spent ≡ true
FaultBy spent Memory = Unit {0}

-- the value of a worker, and what goes out, after an input
abbrev pub StepsTo : Worker → Input → KeptWorker → List Written → Type 0
StepsTo w i new out =
    Represents new (taken wire_model w i)
    × ((out ≡ all_written (outputs wire_model w i)) × (spends wire_model w i ≡ false))

abbrev pub Fails : Worker → Input → StepFault → Type 0
Fails w i fault = FaultBy (spends wire_model w i) fault

-- ---- internal: cited by private functions only

-- the same of what is kept, whatever masks are
abbrev pub Takes : KeptWorker → Input → KeptWorker → List Written → Type 0
Takes old i new out =
    (new ≡ record (kept_after old i) { copies = new.copies }) × ((out ≡ all_written (outputs in_code old.machine i)) × (spends in_code old.machine i ≡ false))

abbrev pub TakesNot : KeptWorker → Input → StepFault → Type 0
TakesNot old i fault = FaultBy (spends in_code old.machine i) fault

-- the inputs by which sessions may end
abbrev pub may_end : Input → Bool
may_end (Look g es) = false
may_end (Rebase g log) = true
may_end (Open conn) = false
may_end (Frame conn text) = false
may_end (Lost conn) = false
may_end (Closed conn code) = true
may_end (Tick now) = true

abbrev pub may_end_by : Given → Bool
may_end_by (given.Look g es) = false
may_end_by (given.Rebase g base basis es) = true
may_end_by (given.Open conn) = false
may_end_by (given.Frame conn text) = false
may_end_by (given.Lost conn) = false
may_end_by (given.Closed conn code) = true
may_end_by (given.Tick now) = true

-- with the dispatches of the sessions that have ended, by how many the live ones had before
abbrev pub past_with : ℕ → KeptWorker → ℕ
past_with before k = min (k.past + (before - live_dispatches k.machine.core.sessions)) (2 ^ 64 - 1)

abbrev pub with_ended : ℕ → KeptWorker → KeptWorker
with_ended before k = record k { past = past_with before k }

abbrev pub past_after : KeptWorker → Input → ℕ
past_after k i = if may_end i then past_with (live_dispatches k.machine.core.sessions) (kept_after k i) else k.past

abbrev pub counted_after : KeptWorker → Input → KeptWorker
counted_after k i = record (kept_after k i) { past = past_after k i }

abbrev pub TakesCounted : KeptWorker → Input → KeptWorker → List Written → Type 0
TakesCounted old i new out =
    (new ≡ record (counted_after old i) { copies = new.copies }) × ((out ≡ all_written (outputs in_code old.machine i)) × (spends in_code old.machine i ≡ false))

-- and then masks are kept of each user who has a session
abbrev pub TakesWhole : KeptWorker → Input → KeptWorker → List Written → Type 0
TakesWhole old i new out = TakesCounted old i new out × (keep_masks new.copies new.machine.core.sessions ≡ true)
