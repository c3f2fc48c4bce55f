use Rattle.std.proofs.Common.{◌≡◌, ◌+◌, ℕ, flat_map, length}
use Rattle.serve_run.specs.Sorted.{HasRoom, source_of_part, door_of_part, clock_of_part}
use Rattle.serve_run.proofs.ends.Ends.add_back.Given as goal

abbrev pub invariant-loop-part : goal.invariant-loop-part
invariant-loop-part g l = record {
  same : l.self ≡ record l.fn.self { returned = l.self.returned };
  sources : length l.self.returned.sources.items + length (flat_map source_of_part l.parts.items) ≡ length l.fn.self.returned.sources.items + length (flat_map source_of_part l.fn.parts.items);
  doors : length l.self.returned.doors.items + length (flat_map door_of_part l.parts.items) ≡ length l.fn.self.returned.doors.items + length (flat_map door_of_part l.fn.parts.items);
  clocks : length l.self.returned.clocks.items + length (flat_map clock_of_part l.parts.items) ≡ length l.fn.self.returned.clocks.items + length (flat_map clock_of_part l.fn.parts.items);
  now : HasRoom (length l.parts.items) l.self;
  room : (more : ℕ) → HasRoom (more + length l.fn.parts.items) l.fn.self → HasRoom (more + length l.parts.items) l.self;
}

abbrev pub decreases-loop-part : goal.decreases-loop-part
decreases-loop-part g l = length l.parts.items
