use Rattle.std.proofs.Common.{◌≡◌, ℕ, ◌<◌, [], length, Some}
use Rattle.std.specs.Prelude.{slice_get}
use Rattle.thread_outside.specs.DialledDoors.{new_door_dial}
use Rattle.thread_outside.proofs.dialled_door.DialledDoor.open.Given as goal

abbrev pub invariant-loop-dial : goal.invariant-loop-dial
invariant-loop-dial g l = record {
  dials : l.taker.dials ≡ l.dial;
  taken : l.taker.taken ≡ [];
  empty_takes : l.taker.empty_takes ≡ 0;
  many : length l.made.items ≡ l.dial;
  made : (p : ℕ) → p < l.dial → slice_get l.made.items p ≡ Some (new_door_dial l.taker.queue p);
}
