-- What the code keeps, and the connections and sessions that it represents.
use Rattle.std.specs.Prelude.{◌≡◌, ℕ, ◌<◌, ◌^◌, List, Option, Some, None, option_and_then, ◌↔◌, nat_eq}
use Rattle.std.specs.List.{IsDistinct}
use Rattle.std.specs.Map.{lookup, keys_of}
use Rattle.dispatch_types.specs.declared.viewer.Viewer.{Viewer}
use Rattle.session_core.specs.declared.holder.Holder.{Holder}
use Rattle.session_core.specs.declared.kept.Connection.{Connection as KeptConnection}
use Rattle.session_core.specs.declared.kept.Session.{Session as KeptSession}
use Rattle.session_core.specs.declared.kept.Condition.{Condition as KeptCondition}
use Rattle.session_core.specs.declared.kept.Condition.TheVariants as condition
use Rattle.replay_ring.specs.Replay.{Replay}
use Rattle.session_core.specs.State.{Connection, Session, Condition, Attached, Detached}
use Rattle.session_core.specs.Holders.{holder_of}

-- whether a session has a connection
abbrev pub condition_of : KeptCondition → Condition
condition_of (condition.Attached conn) = Attached conn
condition_of (condition.Detached since) = Detached since

-- the connection that it has
abbrev pub conn_of : KeptCondition → Option ℕ
conn_of (condition.Attached conn) = Some conn
conn_of (condition.Detached since) = None

-- the connection, and the session, of an entry
abbrev pub connection_of : ℕ × KeptConnection → Connection
connection_of e = record { number = e.0; last_heartbeat_ms = e.1.last_heartbeat_ms; times = e.1.times }

abbrev pub session_of : ℕ × KeptSession → Session Replay
session_of e = record { number = e.0; token = e.1.token; name = e.1.holder.name; viewer = e.1.viewer; condition = condition_of e.1.condition; sent = e.1.sent }

-- what is kept of a session on a connection
abbrev pub new_session : List ℕ → Holder → Viewer → ℕ → Replay → KeptSession
new_session token holder viewer conn sent = record { token = token; holder = holder; viewer = viewer; condition = condition.Attached conn; sent = sent }

-- the session of a connection
abbrev pub session_at : List (ℕ × KeptConnection) → ℕ → Option ℕ
session_at connections conn = option_and_then (λ (l : KeptConnection). l.session) (lookup (nat_eq conn) connections)

-- the connection of a session
abbrev pub conn_at : List (ℕ × KeptSession) → ℕ → Option ℕ
conn_at sessions number = option_and_then (λ (x : KeptSession). conn_of x.condition) (lookup (nat_eq number) sessions)

-- each is the other's
abbrev pub Agree : (ℕ → Option ℕ) → (ℕ → Option ℕ) → Type 0
Agree f g = (c n : ℕ) → (f c ≡ Some n) ↔ (g n ≡ Some c)

-- what is true of all that the code keeps
pub record IsKept (made : ℕ) (connections : List (ℕ × KeptConnection)) (sessions : List (ℕ × KeptSession)) : Type 0 where
  pub connections_once : IsDistinct nat_eq (keys_of connections)
  pub sessions_once : IsDistinct nat_eq (keys_of sessions)
  -- a new number is none of a session's
  pub counted : (n : ℕ) → made < n → lookup (nat_eq n) sessions ≡ None
  pub agree : Agree (session_at connections) (conn_at sessions)
  -- each number is one of 32 bits
  pub small : made < 2 ^ 32

-- a session of this number is kept with whom it is for
abbrev pub IsHeld : (worker number : ℕ) → Option KeptSession → Type 0
IsHeld worker number None = Unit {0}
IsHeld worker number (Some x) = x.holder ≡ holder_of worker (session_of (number, x))

abbrev pub AreHeld : ℕ → List (ℕ × KeptSession) → Type 0
AreHeld worker sessions = (number : ℕ) → IsHeld worker number (lookup (nat_eq number) sessions)
