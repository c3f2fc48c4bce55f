use Rattle.std.proofs.Common.{◌≡◌, ◌++◌, drop, map, filter}
use Rattle.session_core.specs.State.{Connection, has_session}
use Rattle.session_core.specs.Ends.{connection_number, session_conns}
use Rattle.session_core.proofs.sessions.Sessions.session_conns.Given as goal

abbrev pub invariant-loop-index : goal.invariant-loop-index
invariant-loop-index l =
    l.conns.items ++ map connection_number (filter (λ (c : Connection). has_session c.number l.self) (drop l.index l.self.connections)) ≡ session_conns l.self
