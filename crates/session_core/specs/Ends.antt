-- How connections and sessions end (Gateway, Disconnecting; Sending Heartbeats). What is left of a session
-- that ends is a parameter: in the model the session as it ended, in the code nothing.
use Rattle.std.specs.Prelude.{ℕ, ◌+◌, List, [], ◌∷◌, Bool, false, not, ◌==◌, ◌||◌, nat_le, if◌then◌else◌, map, filter, flat_map}
use Rattle.collections.specs.ById.{put_all}
use Rattle.session_core.specs.declared.reply.Reply.{Reply}
use Rattle.session_core.specs.declared.reply.Reply.TheVariants.{Close}
use Rattle.session_core.specs.State.{State, Session, Connection, Condition, Attached, Detached, Ended, is_on, is_live, has_connection, has_session, gone}

-- the codes by which a client says that it will not resume
abbrev pub is_final : ℕ → Bool
is_final code = (code == 1000) || (code == 1001)

-- a connection without a heartbeat for two intervals
abbrev pub is_silent : ℕ → Connection → Bool
is_silent now l = nat_le (l.last_heartbeat_ms + 82500) now

-- a session without a connection for three minutes
abbrev pub is_overdue : ℕ → Condition → Bool
is_overdue now (Attached conn) = false
is_overdue now (Detached since) = nat_le (since + 180000) now
is_overdue now Ended = false

abbrev pub connection_number : Connection → ℕ
connection_number l = l.number

abbrev pub own_number : ℕ → ℕ
own_number n = n

abbrev pub closes : List ℕ → List Reply
closes conns = map (λ conn. Close conn 4000) conns

-- the silent connections, ascending
abbrev pub silent_of : ℕ → List Connection → List ℕ
silent_of now connections = put_all own_number [] (map connection_number (filter (is_silent now) connections))

module _ {A : Type 0} where
  -- the link of a connection is lost: its session can be resumed
  abbrev pub lost : ℕ → ℕ → State A → State A
  lost conn now s = if has_connection conn s then gone conn (Detached now) s else s

  abbrev pub all_gone : List ℕ → ℕ → State A → State A
  all_gone [] now s = s
  all_gone (conn ∷ conns) now s = all_gone conns now (gone conn (Detached now) s)

  abbrev pub tick_replies : ℕ → State A → List Reply
  tick_replies now s = closes (silent_of now s.connections)

  -- the connections that have a session, in order of arrival
  abbrev pub session_conns : State A → List ℕ
  session_conns s = map connection_number (filter (λ (l : Connection). has_session l.number s) s.connections)

  -- each of them is closed where all sessions end
  abbrev pub end_all_replies : State A → List Reply
  end_all_replies s = closes (session_conns s)

module _ {A : Type 0} (ended : Session A → List (Session A)) where
  -- what is left of a session on a connection that its client has closed for good
  abbrev pub left_of : ℕ → Session A → List (Session A)
  left_of conn x = if is_on conn x.condition then ended x else x ∷ []

  abbrev pub left : ℕ → State A → State A
  left conn s = record s { connections = filter (λ (l : Connection). not (l.number == conn)) s.connections; sessions = flat_map (left_of conn) s.sessions }

  -- a client has closed its connection with a code
  abbrev pub client_closed : ℕ → ℕ → ℕ → State A → State A
  client_closed conn code now s = if is_final code then (if has_connection conn s then left conn s else s) else lost conn now s

  abbrev pub kept_for : ℕ → Session A → List (Session A)
  kept_for now x = if is_overdue now x.condition then ended x else x ∷ []

  -- the sessions end that were left without a connection for too long
  abbrev pub expired : ℕ → State A → State A
  expired now s = record s { sessions = flat_map (kept_for now) s.sessions }

  -- time has passed: silent connections are closed, and then sessions end
  abbrev pub ticked : ℕ → State A → State A
  ticked now s = expired now (all_gone (silent_of now s.connections) now s)

  -- what is left of a session where all live sessions end
  abbrev pub ended_if_live : Session A → List (Session A)
  ended_if_live x = if is_live x.condition then ended x else x ∷ []

  -- all live sessions end, and the connections that have one are removed
  abbrev pub all_ended : State A → State A
  all_ended s = record s {
    connections = filter (λ (l : Connection). not (has_session l.number s)) s.connections;
    sessions = flat_map ended_if_live s.sessions;
  }
