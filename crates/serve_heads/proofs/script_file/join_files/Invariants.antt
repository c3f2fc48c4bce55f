-- what was put together, and what is left in reverse
use Rattle.std.proofs.Common.{◌≡◌, ◌+◌, ◌≤◌, ◌++◌, length, map, reverse}
use Rattle.std.specs.Vec.{vec_len, vec_capacity}
use Rattle.serve_heads.specs.Gathered.{source_of, script_of}
use Rattle.serve_heads.proofs.script_file.join_files.Given as goal

abbrev pub invariant-loop-source : goal.invariant-loop-source
invariant-loop-source g l = record {
  sources : map source_of l.files.items ++ reverse l.sources.items ≡ l.fn.sources.items;
  scripts : map script_of l.files.items ++ reverse l.scripts.items ≡ l.fn.scripts.items;
  alike : length l.scripts.items ≡ length l.sources.items;
  room : vec_len l.files + vec_len l.sources ≤ vec_capacity l.files;
}

abbrev pub decreases-loop-source : goal.decreases-loop-source
decreases-loop-source g l = length l.sources.items
