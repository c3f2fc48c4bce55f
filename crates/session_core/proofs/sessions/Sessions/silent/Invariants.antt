use Rattle.std.proofs.Common.{◌≡◌, drop, map, filter}
use Rattle.collections.specs.ById.{put_all}
use Rattle.session_core.specs.Ends.{own_number, connection_number, is_silent, silent_of}
use Rattle.session_core.proofs.sessions.Sessions.silent.Given as goal

abbrev pub invariant-loop-index : goal.invariant-loop-index
invariant-loop-index l = put_all own_number l.conns (map connection_number (filter (is_silent l.now) (drop l.index l.self.connections))) ≡ silent_of l.now l.self.connections
