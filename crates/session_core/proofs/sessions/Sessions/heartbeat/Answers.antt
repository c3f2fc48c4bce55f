use Rattle.std.proofs.Common.{◌≡◌, nat_eq, None, Some, refl, sym}
use Rattle.std.specs.Map.{lookup}
use Rattle.session_core.proofs.Entries.{after_heartbeat-absent, after_heartbeat-kept}
use Rattle.session_core.proofs.Changes.{IsKept-after_heartbeat, connection_after_heartbeat}
use Rattle.session_core.proofs.sessions.Sessions.heartbeat.Goals as goal

pub returns-in_default : goal.returns-in_default
returns-in_default c =
    let absent : lookup (nat_eq c.args.conn) c.self.inside.connections.entries ≡ None = sym c.in_default.ensures.value in
    rw (← c.self.view_is, c.get_mut.follows.holds-at-none, after_heartbeat-absent c.self.inside.connections.entries c.args.conn c.args.now absent) refl

pub invariant_of-self-2 : goal.invariant_of-self-2
invariant_of-self-2 c =
    let there : lookup (nat_eq c.args.conn) c.self.inside.connections.entries ≡ Some c.in-Some.connection.now = sym c.in-Some.ensures.value in
    let w = c.get_mut.follows.holds (connection_after_heartbeat c.in-Some.connection.now c.args.now) in
    (IsKept-after_heartbeat _ _ _ _ c.args.conn c.args.now c.in-Some.connection.now c.self.invariant.0 there w.4 (w.3 (rw there refl)).0, c.self.invariant.1)

pub returns : goal.returns
returns c =
    let there : lookup (nat_eq c.args.conn) c.self.inside.connections.entries ≡ Some c.in-Some.connection.now = sym c.in-Some.ensures.value in
    let w = c.get_mut.follows.holds (connection_after_heartbeat c.in-Some.connection.now c.args.now) in
    rw (← c.self.view_is, w.0, after_heartbeat-kept c.self.inside.connections.entries c.args.conn c.args.now c.in-Some.connection.now c.self.invariant.0.connections_once there) refl
