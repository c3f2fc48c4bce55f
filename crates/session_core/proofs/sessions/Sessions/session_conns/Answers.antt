-- One connection more.
use Rattle.std.proofs.Common.{◌≡◌, ◌+◌, ◌∷◌, [], Bool, Some, sym, ◌∙◌, slice_get, filter, map, drop, true, false, is_some, append_assoc}
use Rattle.session_core.specs.State.{Connection, has_session}
use Rattle.session_core.specs.Ends.{connection_number}
use Rattle.session_core.specs.Kept.{connection_of}
use Rattle.session_core.proofs.Endings.{filter-next, connection-at}
use Rattle.session_core.proofs.AllEnded.{has_session-index}
use Rattle.session_core.proofs.sessions.Sessions.session_conns.Goals as goal
use Rattle.session_core.proofs.sessions.Sessions.session_conns.Goals.{then-is_some+in_ok-push, else-is_some}

pub loop-index-preserved : goal.loop-index-preserved
loop-index-preserved c =
    let has : Connection → Bool = λ l. has_session l.number c.args.self.now in
    let l : Connection = connection_of (c.in-Some.conn.now, c.in-Some.connection.now) in
    let at : slice_get c.args.self.now.connections c.loop-index.index ≡ Some l =
    rw (← c.self.view_is) (connection-at c.self.inside.connections.entries c.loop-index.index c.in-Some.conn.now c.in-Some.connection.now (sym c.in-Some.ensures.entry)) in
    let next = filter-next has c.args.self.now.connections c.loop-index.index l at in
    let tests : has_session c.in-Some.conn.now c.args.self.now ≡ is_some c.in-Some.connection.now.session =
    rw (← c.self.view_is)
    (has_session-index c.self.inside.made c.self.inside.connections.entries c.self.inside.sessions.entries c.self.invariant.0
    c.loop-index.index c.in-Some.conn.now c.in-Some.connection.now (sym c.in-Some.ensures.entry)) in
    elim c.if-is_some.branch [
      | then-is_some+in_ok-push w ↦
          let due : has l ≡ true = tests ∙ (sym c.is_some.ensures ∙ w.if-is_some.true) in
          let now : filter has (drop c.loop-index.index c.args.self.now.connections) ≡ l ∷ filter has (drop (c.loop-index.index + 1) c.args.self.now.connections) =
          rw due at next in
          rw (w.conns-is, w.in_ok-push.ensures.items)
          (append_assoc c.loop-index.conns.items (l.number ∷ []) (map connection_number (filter has (drop (c.loop-index.index + 1) c.args.self.now.connections)))
          ∙ rw now at c.loop-index.invariant)
      | else-is_some w ↦
          let quiet : has l ≡ false = tests ∙ (sym c.is_some.ensures ∙ w.if-is_some.false) in
          let now : filter has (drop c.loop-index.index c.args.self.now.connections) ≡ filter has (drop (c.loop-index.index + 1) c.args.self.now.connections) =
          rw quiet at next in
          rw w.conns-is (rw now at c.loop-index.invariant)
    ]
