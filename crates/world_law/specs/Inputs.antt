-- What comes to a worker, what becomes of the worker, and what goes out (Gateway, Connection Lifecycle).
use Rattle.std.specs.Prelude.{ℕ, List, [], ◌∷◌, if◌then◌else◌, length, map, max, nat_lt}
use Rattle.edit_apply.specs.declared.Edit.{Edit}
use Rattle.gateway_frames.specs.declared.out.Out.TheVariants.{Hello}
use Rattle.session_core.specs.State.{State, has_connection, opened}
use Rattle.session_core.specs.Ends.{lost, client_closed, ticked, silent_of}
use Rattle.world_law.specs.Keeping.{Keeping, Machine, record_at}
use Rattle.world_law.specs.Outputs.{Output, Says, Closes}
use Rattle.world_law.specs.Looks.{looked_by, look_sends_by, rebased_by, rebase_sends_by}
use Rattle.world_law.specs.Frames.{move_at, framed, frame_sends}

pub data Input : Type 0 where
  -- entries of a guild's log, which follow those that were handled
  Look : (guild : ℕ) (entries : List Edit) → Input
  -- a guild's log as it is now, of which the worker has missed too many entries
  Rebase : (guild : ℕ) (log : List Edit) → Input
  Open : (conn : ℕ) → Input
  Frame : (conn : ℕ) (text : List ℕ) → Input
  -- the link of a connection is lost
  Lost : (conn : ℕ) → Input
  -- a client has closed its connection with a code
  Closed : (conn code : ℕ) → Input
  Tick : (now : ℕ) → Input

-- Hello, or a close if there are 64 connections
abbrev pub open_sends : {A : Type 0} → ℕ → State A → List Output
open_sends conn s = if has_connection conn s then [] else (if nat_lt (length s.connections) 64 then Says conn (Hello 41250) ∷ [] else Closes conn 4000 ∷ [])

-- connections without a heartbeat are closed
abbrev pub tick_sends : {A : Type 0} → ℕ → State A → List Output
tick_sends now s = map (λ conn. Closes conn 4000) (silent_of now s.connections)

module _ {A R : Type 0} (keeping : Keeping A R) where
  -- time has passed, and does not run back
  abbrev pub passed : Machine A R → ℕ → Machine A R
  passed w now = record w { now = now; core = ticked (keeping.ends (keeping.cursors w.logs)) now w.core }

  -- what becomes of a worker
  abbrev pub taken : Machine A R → Input → Machine A R
  taken w (Look g es) = looked_by keeping (record_at keeping w.logs g) w g es
  taken w (Rebase g log) = rebased_by keeping (record_at keeping w.logs g) w g log
  taken w (Open conn) = record w { core = opened conn w.now w.core }
  taken w (Frame conn text) = framed keeping w conn (move_at keeping w conn text)
  taken w (Lost conn) = record w { core = lost conn w.now w.core }
  taken w (Closed conn code) = record w { core = client_closed (keeping.ends (keeping.cursors w.logs)) conn code w.now w.core }
  taken w (Tick now) = passed w (max w.now now)

  -- what goes out
  abbrev pub outputs : Machine A R → Input → List Output
  outputs w (Look g es) = look_sends_by keeping (record_at keeping w.logs g) w g es
  outputs w (Rebase g log) = rebase_sends_by (record_at keeping w.logs g) w.core
  outputs w (Open conn) = open_sends conn w.core
  outputs w (Frame conn text) = frame_sends keeping w conn (move_at keeping w conn text)
  outputs w (Lost conn) = []
  outputs w (Closed conn code) = []
  outputs w (Tick now) = tick_sends (max w.now now) w.core
