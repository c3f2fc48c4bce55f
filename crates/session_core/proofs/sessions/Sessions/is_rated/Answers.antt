use Rattle.std.proofs.Common.{◌≡◌, nat_eq, None, Some, sym, ◌∙◌}
use Rattle.std.specs.Map.{lookup}
use Rattle.session_core.proofs.Rates.{rated-absent, rated-kept}
use Rattle.session_core.proofs.sessions.Sessions.is_rated.Goals as goal

pub returns-in-Some : goal.returns-in-Some
returns-in-Some c =
    let there : lookup (nat_eq c.args.conn) c.self.inside.connections.entries ≡ Some c.in-Some.connection.now = sym c.in-Some.ensures.value in
    rw (← c.self.view_is) (c.is_crowded.ensures ∙ sym (rated-kept c.self.inside.connections.entries c.args.conn c.args.now c.in-Some.connection.now c.self.invariant.0.connections_once there))

pub returns-in-None : goal.returns-in-None
returns-in-None c =
    let absent : lookup (nat_eq c.args.conn) c.self.inside.connections.entries ≡ None = sym c.in-None.ensures.value in
    rw (← c.self.view_is) (sym (rated-absent c.self.inside.connections.entries c.args.conn c.args.now absent))
