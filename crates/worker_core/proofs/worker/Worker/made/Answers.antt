-- What was made, in the words of the model.
use Rattle.std.proofs.Common.{ap, ◌∙◌}
use Rattle.replay_ring.specs.Replay.{Replay}
use Rattle.session_core.specs.State.{State}
use Rattle.worker_core.proofs.Counting.{made_is}
use Rattle.worker_core.proofs.worker.Worker.made.Goals as goal

pub returns-clause-sessions : goal.returns-clause-sessions
returns-clause-sessions c w stands = c.from-sessions.ensures ∙ (c.sessions_made.ensures ∙ ap (λ (s : State Replay). s.made) stands.machine.core)

pub returns-clause-dispatches : goal.returns-clause-dispatches
returns-clause-dispatches c w stands = c.dispatches_made-dispatches.ensures ∙ made_is c.args.self.now w stands
