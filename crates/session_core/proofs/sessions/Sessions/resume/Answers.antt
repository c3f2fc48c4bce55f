-- The older connection is gone, and its session is detached.
use Rattle.std.proofs.Common.{◌≡◌, Some, None, true, false, sym, ap, subst, ◌∙◌}
use Rattle.std.specs.Prelude.{◌==◌, option_map}
use Rattle.std.specs.List.{find}
use Rattle.replay_ring.specs.Replay.{Replay}
use Rattle.session_core.specs.State.{State, Session, has_connection, has_session, attached}
use Rattle.session_core.proofs.Joins.{cut_connections, cut_free, cut_there}
use Rattle.session_core.proofs.sessions.Sessions.resume.Goals as goal

pub attach-requires-in-Some-clause-connected : goal.attach-requires-in-Some-clause-connected
attach-requires-in-Some-clause-connected c =
    subst (λ (s : State Replay). has_connection c.args.conn s ≡ true) (sym c.detach.ensures)
    (cut_connections c.args.conn c.in-Some.older c.args.now c.args.self.now c.args.number c.requires.connected c.requires.free (c.requires.there ∙ ap Some c.in-Some.is))

pub attach-requires-in-Some-clause-free : goal.attach-requires-in-Some-clause-free
attach-requires-in-Some-clause-free c =
    subst (λ (s : State Replay). has_session c.args.conn s ≡ false) (sym c.detach.ensures)
    (cut_free c.args.conn c.in-Some.older c.args.now c.args.self.now c.requires.free)

pub attach-requires-in-Some-clause-there : goal.attach-requires-in-Some-clause-there
attach-requires-in-Some-clause-there c =
    subst (λ (s : State Replay). option_map (λ (x : Session Replay). attached x.condition) (find (λ (x : Session Replay). x.number == c.args.number) s.sessions) ≡ Some None) (sym c.detach.ensures)
    (cut_there c.args.conn c.in-Some.older c.args.now c.args.self.now c.args.number (c.requires.there ∙ ap Some c.in-Some.is))
