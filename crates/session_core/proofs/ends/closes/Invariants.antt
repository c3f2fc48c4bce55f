use Rattle.std.proofs.Common.{◌≡◌, take}
use Rattle.session_core.specs.Ends.{closes}
use Rattle.session_core.proofs.ends.closes.Given as goal

abbrev pub invariant-loop-conn : goal.invariant-loop-conn
invariant-loop-conn l = l.replies.items ≡ closes (take l.conn-index l.conns)
