use Rattle.std.proofs.Common.{◌≡◌, drop}
use Rattle.session_core.specs.Ends.{all_gone}
use Rattle.session_core.proofs.sessions.Sessions.detach_all.Given as goal

abbrev pub invariant-loop-conn : goal.invariant-loop-conn
invariant-loop-conn l = all_gone (drop l.conn-index l.conns) l.now l.self ≡ all_gone l.conns l.now l.fn.self
