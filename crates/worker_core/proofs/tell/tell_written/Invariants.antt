use Rattle.std.proofs.Common.{◌≡◌, length, take}
use Rattle.worker_core.proofs.tell.tell_written.Given as goal
use Rattle.worker_core.specs.Telling.{TellsAt}

abbrev pub invariant-loop-next : goal.invariant-loop-next
invariant-loop-next l = record {
  told : TellsAt l.index (λ x. take l.next l.dispatches) l.fn.sessions l.sessions l.fn.out.items l.out.items;
  as_many : length l.sessions.sessions ≡ length l.fn.sessions.sessions;
}
