-- what was added, and what is left in reverse, are the parts
use Rattle.std.proofs.Common.{◌≡◌, ◌+◌, ◌≤◌, ◌++◌, length, map, reverse}
use Rattle.std.specs.Vec.{vec_len, vec_capacity}
use Rattle.team_run.proofs.adding.add_each.Given as goal

abbrev pub invariant-loop-part : goal.invariant-loop-part
invariant-loop-part g l = record {
  items : l.parts.items ++ map g.X.PartOf.among (reverse l.more.items) ≡ l.fn.parts.items ++ map g.X.PartOf.among l.fn.more.items;
  room : vec_len l.parts + length l.more.items ≤ vec_capacity l.parts;
  count : vec_len l.parts + length l.more.items ≡ vec_len l.fn.parts + length l.fn.more.items;
  larger : vec_capacity l.fn.parts ≤ vec_capacity l.parts;
}

abbrev pub decreases-loop-part : goal.decreases-loop-part
decreases-loop-part g l = length l.more.items
