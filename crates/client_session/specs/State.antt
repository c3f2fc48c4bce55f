-- What a client keeps of its session, its connection and its dispatches (Gateway, Connection
-- Lifecycle). What is kept of the dispatches is a parameter: the cache in the code, all of them in
-- a law.
use Rattle.std.specs.Prelude.{ℕ, List, [], Option, None}
use Rattle.client_cache.specs.Cached.{Cached}
use Rattle.client_session.specs.declared.session.Session.{Session}
use Rattle.client_session.specs.declared.heartbeat.Heartbeat.{Heartbeat}

pub record ClientState (A : Type 0) : Type 0 where
  pub token : List ℕ
  pub intents : ℕ
  -- the session that the last READY began, until it is forgotten
  pub session : Option Session
  -- the heartbeats of a connection that had Hello
  pub heartbeat : Option Heartbeat
  pub kept : A

-- before the first connection
abbrev pub new_client : {A : Type 0} → List ℕ → ℕ → A → ClientState A
new_client token intents kept = record {
  token = token;
  intents = intents;
  session = None;
  heartbeat = None;
  kept = kept;
}

abbrev pub empty_cache : ℕ → Cached
empty_cache intents = record { intents = intents; bot = 0; guilds = [] }
