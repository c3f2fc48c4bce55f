use Rattle.std.proofs.Common.{◌≡◌}
use Rattle.thread_outside.specs.CallLists.{ends_in}
use Rattle.thread_outside.specs.DialledDoors.{GoesOn}
use Rattle.thread_outside.proofs.call_taker.CallTaker.next.Given as goal

abbrev pub invariant-loop : goal.invariant-loop
invariant-loop g l = record {
  queue : l.self.queue ≡ l.fn.self.queue;
  dials : l.self.dials ≡ l.fn.self.dials;
  on : GoesOn l.fn.self.taken l.self.taken;
  ends : ends_in l.self.taken ≡ ends_in l.fn.self.taken;
  empty_takes : l.self.empty_takes ≡ l.fn.self.empty_takes;
}
