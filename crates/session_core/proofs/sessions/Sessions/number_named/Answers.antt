use Rattle.std.proofs.Common.{◌≡◌, subst}
use Rattle.std.specs.Prelude.{◌==◌}
use Rattle.std.specs.Option.{option_and_then}
use Rattle.std.specs.List.{find}
use Rattle.replay_ring.specs.Replay.{Replay}
use Rattle.session_core.specs.State.{State, Session}
use Rattle.session_core.specs.Resume.{session_named}
use Rattle.session_core.proofs.Joins.{named-kept, small-kept}
use Rattle.session_core.proofs.sessions.Sessions.number_named.Goals as goal

pub returns : goal.returns
returns c =
    let h = c.in_ok-number.ensures in
    let IsSo : State Replay → Type 0 = λ s. session_named c.args.id.now s ≡ option_and_then (λ n. find (λ (x : Session Replay). x.number == n) s.sessions) c.in_ok-number.number in
    subst IsSo c.self.view_is
    (named-kept c.self.inside.worker c.args.id.now c.in_ok-number.number h.all c.self.inside.sessions.entries
    (small-kept c.self.inside.made c.self.inside.connections.entries c.self.inside.sessions.entries c.self.invariant.0) h.is)
