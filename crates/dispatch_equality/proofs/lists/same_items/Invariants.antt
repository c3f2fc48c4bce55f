-- the items so far are equal
use Rattle.std.proofs.Common.{◌≡◌, length, take}
use Rattle.dispatch_equality.proofs.lists.same_items.Given as goal

abbrev pub invariant-loop-item : goal.invariant-loop-item
invariant-loop-item g l = take (length l.yielded) l.one ≡ take (length l.yielded) l.other
