use Rattle.std.proofs.Common.{◌≡◌, ◌+◌, ℕ, flat_map, length}
use Rattle.load_run.specs.Ends.{clock_of_part}
use Rattle.load_run.specs.Sorted.{HasRoom}
use Rattle.load_run.proofs.sorting.Ends.add_back.Given as goal

abbrev pub invariant-loop-part : goal.invariant-loop-part
invariant-loop-part g l = record {
  same : l.self ≡ record l.fn.self { clocks = l.self.clocks };
  clocks : length l.self.clocks.items + length (flat_map clock_of_part l.parts.items) ≡ length l.fn.self.clocks.items + length (flat_map clock_of_part l.fn.parts.items);
  now : HasRoom (length l.parts.items) l.self;
  room : (more : ℕ) → HasRoom (more + length l.fn.parts.items) l.fn.self → HasRoom (more + length l.parts.items) l.self;
}

abbrev pub decreases-loop-part : goal.decreases-loop-part
decreases-loop-part g l = length l.parts.items
