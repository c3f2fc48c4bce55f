use Rattle.std.proofs.Common.{◌≡◌, nat_eq, None, Some, sym}
use Rattle.std.specs.Map.{lookup}
use Rattle.session_core.proofs.Sides.{session_at-is, session_at-absent, has_session-kept, number-kept}
use Rattle.session_core.proofs.sessions.Sessions.number_on.Goals as goal

pub returns-in-Some-clause-number : goal.returns-in-Some-clause-number
returns-in-Some-clause-number c =
    let there : lookup (nat_eq c.args.conn) c.self.inside.connections.entries ≡ Some c.in-Some.connection.now = sym c.in-Some.ensures.value in
    rw (← c.self.view_is) (number-kept _ _ _ c.self.invariant.0 c.args.conn c.in-Some.connection.now.session (session_at-is c.self.inside.connections.entries c.args.conn c.in-Some.connection.now there))

pub returns-in-Some-clause-has : goal.returns-in-Some-clause-has
returns-in-Some-clause-has c =
    let there : lookup (nat_eq c.args.conn) c.self.inside.connections.entries ≡ Some c.in-Some.connection.now = sym c.in-Some.ensures.value in
    rw (← c.self.view_is) (has_session-kept _ _ _ c.self.invariant.0 c.args.conn c.in-Some.connection.now.session (session_at-is c.self.inside.connections.entries c.args.conn c.in-Some.connection.now there))

pub returns-in-None-clause-number : goal.returns-in-None-clause-number
returns-in-None-clause-number c =
    let absent : lookup (nat_eq c.args.conn) c.self.inside.connections.entries ≡ None = sym c.in-None.ensures.value in
    rw (← c.self.view_is) (number-kept _ _ _ c.self.invariant.0 c.args.conn None (session_at-absent c.self.inside.connections.entries c.args.conn absent))

pub returns-in-None-clause-has : goal.returns-in-None-clause-has
returns-in-None-clause-has c =
    let absent : lookup (nat_eq c.args.conn) c.self.inside.connections.entries ≡ None = sym c.in-None.ensures.value in
    rw (← c.self.view_is) (has_session-kept _ _ _ c.self.invariant.0 c.args.conn None (session_at-absent c.self.inside.connections.entries c.args.conn absent))
