use Rattle.std.proofs.Common.{◌≡◌, ◌-◌, length}
use Rattle.std.specs.Prelude.{sum_by}
use Rattle.replay_ring.specs.Replay.{longest_suffix}
use Rattle.replay_ring.proofs.ring.make_room.Given as goal

abbrev pub invariant-loop-texts : goal.invariant-loop-texts
invariant-loop-texts l = record {
  capacity : l.texts.capacity ≡ l.fn.texts.capacity;
  counted : l.bytes ≡ sum_by length l.texts.items;
  same : longest_suffix (l.fn.texts.capacity - 1) l.room l.texts.items ≡ longest_suffix (l.fn.texts.capacity - 1) l.room l.fn.texts.items;
}

abbrev pub decreases-loop-texts : goal.decreases-loop-texts
decreases-loop-texts l = length l.texts.items
