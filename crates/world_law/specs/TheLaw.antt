-- The law: what is true of every session, whatever steps come.
use Rattle.std.specs.Prelude.{◌≡◌, ℕ, List, [], ◌∷◌, ◌++◌, All}
use Rattle.dispatch_types.specs.declared.dispatch.Dispatch.{Dispatch}
use Rattle.edit_apply.specs.declared.Edit.{Edit}
use Rattle.session_core.specs.declared.bot.Bot.{Bot}
use Rattle.session_core.specs.State.{Session}
use Rattle.world_law.specs.Keeping.{Cursors}
use Rattle.world_law.specs.Sent.{Sent}
use Rattle.world_law.specs.Model.{Worker, in_model, cursors, first_worker}
use Rattle.world_law.specs.Inputs.{Input, Look, Rebase, Open, Frame, Lost, Closed, Tick, taken}
use Rattle.world_law.specs.World.{Step, run, first_world}
use Rattle.world_law.specs.Folds.{SessionHolds}
use Rattle.world_law.specs.Sends.{IsAlone, EachSendHolds}
use Rattle.world_law.specs.Connections.{EachOutputHolds}
use Rattle.world_law.specs.Entries.{SessionEntriesHold, EntriesTellOnly, MessagesHold}
use Rattle.world_law.specs.Resumes.{EachResumeHolds}

-- of each session of a worker, by the logs and by what the worker has handled of them
abbrev pub OfSessions : ((ℕ → List Edit) → Cursors → Session Sent → Type 0) → (ℕ → List Edit) → Worker → Type 0
OfSessions P logs w = All (P logs (cursors w.logs.seen)) w.core.sessions

-- in each world that steps make, of each session of each worker
abbrev pub InEachWorld : ((ℕ → List Edit) → Cursors → Session Sent → Type 0) → Type 0
InEachWorld P = (text : ℕ → Dispatch → List ℕ) (bots : List Bot) (guilds : List ℕ) (places : List (ℕ × List ℕ)) (steps : List Step)
    → let world = run text (first_world bots guilds places) steps in All (OfSessions P world.logs) world.workers

-- what a session was sent folds to the projection of one prefix of each log
unfoldable pub EachRunHolds : Type 0
EachRunHolds = InEachWorld SessionHolds

-- what it was sent for an entry is what that entry owed, and it was sent nothing for any other
unfoldable pub EachEntryHolds : Type 0
EachEntryHolds = InEachWorld SessionEntriesHold

-- what it was sent for an entry tells only of channels that its bot is shown before the entry or after it
unfoldable pub EachEntryTellsOnly : Type 0
EachEntryTellsOnly = InEachWorld EntriesTellOnly

-- the dispatch of an edit of messages was sent, once, exactly if it is shown
unfoldable pub EachMessageHolds : Type 0
EachMessageHolds = InEachWorld MessagesHold

-- a connection has at most one session
unfoldable pub EachConnectionHolds : Type 0
EachConnectionHolds = (text : ℕ → Dispatch → List ℕ) (bots : List Bot) (guilds : List ℕ) (places : List (ℕ × List ℕ)) (steps : List Step)
    → All (λ (w : Worker). (conn : ℕ) → IsAlone conn w.core.sessions) (run text (first_world bots guilds places) steps).workers

-- ---- one worker, by its inputs alone

-- what an input says of the logs is so: the entries of a look follow those that were handled, and so do those
-- of a log that is taken over whole
abbrev pub IsOf : (ℕ → List Edit) → Worker → Input → Type 0
IsOf logs w (Look g es) = (later : List Edit) × (logs g ≡ w.logs.seen g ++ (es ++ later))
IsOf logs w (Rebase g log) = (missed : List Edit) × ((later : List Edit) × ((log ≡ w.logs.seen g ++ missed) × (logs g ≡ log ++ later)))
IsOf logs w (Open conn) = Unit {0}
IsOf logs w (Frame conn text) = Unit {0}
IsOf logs w (Lost conn) = Unit {0}
IsOf logs w (Closed conn code) = Unit {0}
IsOf logs w (Tick now) = Unit {0}

module _ (text : ℕ → Dispatch → List ℕ) where
  abbrev pub AreOf : (ℕ → List Edit) → Worker → List Input → Type 0
  AreOf logs w [] = Unit {0}
  AreOf logs w (i ∷ is) = IsOf logs w i × AreOf logs (taken (in_model text) w i) is

  abbrev pub all_taken : Worker → List Input → Worker
  all_taken w [] = w
  all_taken w (i ∷ is) = all_taken (taken (in_model text) w i) is

pub record WorkerHolds (logs : ℕ → List Edit) (w : Worker) : Type 0 where
  pub alone : (conn : ℕ) → IsAlone conn w.core.sessions
  pub folds : OfSessions SessionHolds logs w
  pub entries : OfSessions SessionEntriesHold logs w
  pub tells : OfSessions EntriesTellOnly logs w
  pub messages : OfSessions MessagesHold logs w

-- the same of a worker by itself, whatever inputs come that are of some logs
unfoldable pub EachWorkerHolds : Type 0
EachWorkerHolds = (text : ℕ → Dispatch → List ℕ) (bots : List Bot) (guilds : List ℕ) (number : ℕ) (url : List ℕ) (logs : ℕ → List Edit) (inputs : List Input)
    → let first = first_worker bots guilds number url in AreOf text logs first inputs → WorkerHolds logs (all_taken text first inputs)

-- ---- all of it

pub record TheLaw : Type 0 where
  -- folding a session's dispatches through any settled number gives the projection of one prefix of each log
  pub folds : EachRunHolds
  -- a connection gets the texts of its session's dispatches
  pub sends : EachSendHolds
  -- and has at most one session
  pub connections : EachConnectionHolds
  -- nothing goes out for a connection that is not open
  pub outputs : EachOutputHolds
  -- each entry made exactly what it owed
  pub entries : EachEntryHolds
  -- and tells only of channels that are shown
  pub tells : EachEntryTellsOnly
  -- a message comes exactly if it is shown
  pub messages : EachMessageHolds
  -- a resume goes on where the client stopped, or is refused
  pub resumes : EachResumeHolds
  -- of one worker, by the inputs that it takes
  pub workers : EachWorkerHolds
