-- The connections and sessions of one worker (Gateway, Connection Lifecycle). What is kept of the
-- dispatches of a session is a parameter: all of them in the model, what a resume needs in the code.
use Rattle.std.specs.Prelude.{ℕ, ◌+◌, List, [], ◌∷◌, ◌++◌, Bool, true, false, not, ◌==◌, ◌&&◌, nat_eq, nat_lt, Option, Some, None, is_some, option_map, if◌then◌else◌, length, map, filter}
use Rattle.std.specs.List.{find, list_any, IsDistinct}
use Rattle.dispatch_types.specs.declared.viewer.Viewer.{Viewer}
use Rattle.gateway_frames.specs.declared.out.Out.TheVariants.{Hello}
use Rattle.session_core.specs.declared.bot.Bot.{Bot}
use Rattle.session_core.specs.declared.reply.Reply.{Reply}
use Rattle.session_core.specs.declared.reply.Reply.TheVariants.{Send, Close}

-- an open connection, the moment of its last heartbeat, at first that of its opening, and the moments of its
-- latest frames
pub record Connection : Type 0 where
  pub number : ℕ
  pub last_heartbeat_ms : ℕ
  pub times : List ℕ

-- whether a session has a connection, or since when it has none, or has ended
pub data Condition : Type 0 where
  Attached : (conn : ℕ) → Condition
  Detached : (since : ℕ) → Condition
  Ended : Condition

pub record Session (A : Type 0) : Type 0 where
  pub number : ℕ
  pub token : List ℕ
  pub name : List ℕ
  pub viewer : Viewer
  pub condition : Condition
  pub sent : A

pub record State (A : Type 0) : Type 0 where
  pub worker : ℕ
  pub bots : List Bot
  -- how many sessions were made
  pub made : ℕ
  pub connections : List Connection
  pub sessions : List (Session A)

abbrev pub is_on : ℕ → Condition → Bool
is_on conn (Attached c) = c == conn
is_on conn (Detached since) = false
is_on conn Ended = false

abbrev pub is_live : Condition → Bool
is_live (Attached conn) = true
is_live (Detached since) = true
is_live Ended = false

-- the connection of a session in this condition
abbrev pub attached : Condition → Option ℕ
attached (Attached conn) = Some conn
attached (Detached since) = None
attached Ended = None

module _ {A : Type 0} where
  abbrev pub has_connection : ℕ → State A → Bool
  has_connection conn s = list_any (λ (l : Connection). l.number == conn) s.connections

  -- the session of a connection
  abbrev pub session_on : ℕ → State A → Option (Session A)
  session_on conn s = find (λ (x : Session A). is_on conn x.condition) s.sessions

  abbrev pub has_session : ℕ → State A → Bool
  has_session conn s = is_some (session_on conn s)

  -- the number of the session of a connection
  abbrev pub number_on : ℕ → State A → Option ℕ
  number_on conn s = option_map (λ (x : Session A). x.number) (session_on conn s)

  abbrev pub live : State A → List (Session A)
  live s = filter (λ (x : Session A). is_live x.condition) s.sessions

  abbrev pub session_number : Session A → ℕ
  session_number x = x.number

  -- no two sessions have one number
  abbrev pub AreNumberedOnce : State A → Type 0
  AreNumberedOnce s = IsDistinct nat_eq (map session_number s.sessions)

  -- the live session of a number
  abbrev pub session_numbered : ℕ → State A → Option (Session A)
  session_numbered number s = find (λ (x : Session A). is_live x.condition && (x.number == number)) s.sessions

  abbrev pub released : ℕ → Condition → Session A → Session A
  released conn next x = if is_on conn x.condition then record x { condition = next } else x

  -- a connection removed, and its session in a new condition
  abbrev pub gone : ℕ → Condition → State A → State A
  gone conn next s = record s { connections = filter (λ (l : Connection). not (l.number == conn)) s.connections; sessions = map (released conn next) s.sessions }

  abbrev pub with_connection : ℕ → ℕ → State A → State A
  with_connection conn now s = record s { connections = s.connections ++ record { number = conn; last_heartbeat_ms = now; times = [] } ∷ [] }

  -- a worker has at most 64 connections
  abbrev pub opened : ℕ → ℕ → State A → State A
  opened conn now s = if has_connection conn s then s else (if nat_lt (length s.connections) 64 then with_connection conn now s else s)

  abbrev pub open_replies : ℕ → State A → List Reply
  open_replies conn s = if has_connection conn s then [] else (if nat_lt (length s.connections) 64 then Send conn (Hello 41250) ∷ [] else Close conn 4000 ∷ [])

  abbrev pub after_heartbeat : ℕ → ℕ → State A → State A
  after_heartbeat conn now s = record s { connections = map (λ (l : Connection). if l.number == conn then record l { last_heartbeat_ms = now } else l) s.connections }

  abbrev pub begun : ℕ → Bot → Viewer → (ℕ → A) → State A → State A
  begun conn bot viewer sent s = record s {
    made = s.made + 1;
    sessions = s.sessions ++ record { number = s.made + 1; token = bot.token; name = bot.name; viewer = viewer; condition = Attached conn; sent = sent (s.made + 1) } ∷ [];
  }

-- before the first connection
abbrev pub no_sessions : {A : Type 0} → ℕ → List Bot → State A
no_sessions worker bots = record { worker = worker; bots = bots; made = 0; connections = []; sessions = [] }
