use Rattle.std.proofs.Common.{sym, ◌∙◌}
use Rattle.session_core.proofs.Entries.{has_connection-kept}
use Rattle.session_core.proofs.sessions.Sessions.is_open.Goals as goal

pub returns : goal.returns
returns c = rw (← c.self.view_is) (c.contains_key.ensures ∙ sym (has_connection-kept c.self.inside.connections.entries c.args.conn))
