use Rattle.std.proofs.Common.{◌≡◌, ℕ, Some, take}
use Rattle.std.specs.Prelude.{position}
use Rattle.world_law.specs.Wants.{is_numbered}
use Rattle.worker_core.proofs.tell.tell.Given as goal
use Rattle.worker_core.specs.Telling.{TellsAt}

abbrev pub invariant-loop-next : goal.invariant-loop-next
invariant-loop-next l = (index : ℕ) → position (is_numbered l.session) l.fn.sessions.sessions ≡ Some index → TellsAt index (λ x. take l.next l.dispatches) l.fn.sessions l.sessions l.fn.out.items l.out.items
