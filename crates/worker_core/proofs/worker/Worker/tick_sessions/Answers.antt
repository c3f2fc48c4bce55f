-- Time that ends no session changes no viewer.
use Rattle.std.proofs.Common.{◌≡◌, true, length, sym, ◌∙◌, arith}
use Rattle.std.proofs.lemmas.Bool.Decides.{nat_tests}
use Rattle.std.specs.Prelude.{◌==◌}
use Rattle.replay_ring.specs.Replay.{Replay}
use Rattle.session_core.specs.State.{State}
use Rattle.worker_core.proofs.Viewing.{ticked_known}
use Rattle.worker_core.proofs.worker.Worker.tick_sessions.Goals as goal
use Rattle.worker_core.proofs.worker.Worker.tick_sessions.Goals.{then-known, else-known}

pub invariant_of-self-2 : goal.invariant_of-self-2
invariant_of-self-2 c = elim c.if-known.branch [
  | then-known w ↦ λ known. (
      let old : State Replay = c.self.inside.sessions in
      let new : State Replay = c.tick.new.self in
      let test : (w.len.result == c.len-before.result) ≡ true = sym w.self-is ∙ known in
      let as_many : w.len.result ≡ c.len-before.result = grind (arith, nat_tests, test) in
      let many : length new.sessions ≡ length old.sessions = sym w.len.ensures.sessions ∙ (as_many ∙ c.len-before.ensures.sessions) in
      ticked_known c.self.inside.recipients.viewers.items c.self.inside.recipients.whose.items c.max-self-inside.result old new
      (c.self.invariant w.if-known.true) c.in_ok-replies.ensures.ticked many)
  | else-known w ↦ λ known. absurd (cc (w.self-is, known))
]
