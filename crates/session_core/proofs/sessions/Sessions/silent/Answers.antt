use Rattle.std.proofs.Common.{◌≡◌, ◌+◌, ◌∷◌, Some, sym, ◌∙◌, slice_get, filter, drop, true, false}
use Rattle.session_core.specs.State.{Connection}
use Rattle.session_core.specs.Kept.{connection_of}
use Rattle.session_core.specs.Ends.{is_silent}
use Rattle.session_core.proofs.Endings.{filter-next, connection-at}
use Rattle.session_core.proofs.sessions.Sessions.silent.Goals as goal
use Rattle.session_core.proofs.sessions.Sessions.silent.Goals.{then-is_silent+in_ok-put, else-is_silent}

pub loop-index-preserved : goal.loop-index-preserved
loop-index-preserved c =
    let l : Connection = connection_of (c.in-Some.conn.now, c.in-Some.connection.now) in
    let at : slice_get c.args.self.now.connections c.loop-index.index ≡ Some l =
    rw (← c.self.view_is) (connection-at c.self.inside.connections.entries c.loop-index.index c.in-Some.conn.now c.in-Some.connection.now (sym c.in-Some.ensures.entry)) in
    let next = filter-next (is_silent c.args.now) c.args.self.now.connections c.loop-index.index l at in
    let tests : is_silent c.args.now l ≡ c.is_silent.result = sym (c.is_silent.ensures c.in-Some.conn.now) in
    elim c.if-is_silent.branch [
      | then-is_silent+in_ok-put w ↦
          let due : is_silent c.args.now l ≡ true = tests ∙ w.if-is_silent.true in
          let now : filter (is_silent c.args.now) (drop c.loop-index.index c.args.self.now.connections) ≡ l ∷ filter (is_silent c.args.now) (drop (c.loop-index.index + 1) c.args.self.now.connections) =
          rw due at next in
          rw (w.conns-is, w.in_ok-put.ensures.ok) (rw now at c.loop-index.invariant)
      | else-is_silent w ↦
          let quiet : is_silent c.args.now l ≡ false = tests ∙ w.if-is_silent.false in
          let now : filter (is_silent c.args.now) (drop c.loop-index.index c.args.self.now.connections) ≡ filter (is_silent c.args.now) (drop (c.loop-index.index + 1) c.args.self.now.connections) =
          rw quiet at next in
          rw w.conns-is (rw now at c.loop-index.invariant)
    ]
