use Rattle.std.proofs.Common.{◌≡◌, nat_eq, None, Some, refl, ◌∙◌}
use Rattle.std.specs.Map.{lookup}
use Rattle.indexmap.proofs.CallerLemmas.{insert_entry-new}
use Rattle.session_core.specs.declared.kept.Connection.{Connection as KeptConnection}
use Rattle.session_core.specs.Kept.{connection_of}
use Rattle.session_core.proofs.Entries.{absent-connection, added-kept}
use Rattle.session_core.proofs.Changes.{IsKept-connection}
use Rattle.session_core.proofs.sessions.Sessions.add.Goals as goal

pub invariant_of-self-2 : goal.invariant_of-self-2
invariant_of-self-2 c =
    let h = c.in_ok-insert.ensures in
    let l : KeptConnection = record { last_heartbeat_ms = c.args.now; times = c.in_ok-times.times; session = None } in
    let absent : lookup (nat_eq c.args.conn) c.self.inside.connections.entries ≡ None =
    absent-connection c.self.inside.connections.entries c.args.conn (rw (← c.self.view_is) at c.requires) in (
      IsKept-connection c.self.inside.made c.self.inside.connections.entries c.insert.new.self.entries c.self.inside.sessions.entries c.args.conn (Some l)
          c.self.invariant.0 h.unique h.updates.0 (rw absent refl),
      c.self.invariant.1,
    )

pub returns-clause-ok : goal.returns-clause-ok
returns-clause-ok c =
    let h = c.in_ok-insert.ensures in
    let l : KeptConnection = record { last_heartbeat_ms = c.args.now; times = c.in_ok-times.times; session = None } in
    let absent : lookup (nat_eq c.args.conn) c.self.inside.connections.entries ≡ None =
    absent-connection c.self.inside.connections.entries c.args.conn (rw (← c.self.view_is) at c.requires) in
    let connections = added-kept connection_of c.self.inside.connections.entries c.insert.new.self.entries (c.args.conn, l)
    (h.entries ∙ insert_entry-new nat_eq c.self.inside.connections c.args.conn l absent) in
    rw (← c.self.view_is, connections, c.in_ok-times.ensures) refl
