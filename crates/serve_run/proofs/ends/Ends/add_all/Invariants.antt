use Rattle.std.proofs.Common.{◌≡◌, ◌++◌, List, length, reverse}
use Rattle.serve_parts.specs.declared.serve_part.ServeDone.{ServeDone}
use Rattle.serve_run.specs.Sorted.{Sorts, HasRoom}
use Rattle.serve_run.proofs.ends.Ends.add_all.Given as goal

abbrev pub invariant-loop-done : goal.invariant-loop-done
invariant-loop-done g l = record {
  front : List (ServeDone g.row.S.Denot g.row.D.Denot g.row.C.Denot g.row.R.Denot);
  parts : l.fn.dones.items ≡ front ++ reverse l.dones.items;
  sorts : Sorts front l.fn.self l.self;
  room : HasRoom (length l.dones.items) l.self;
}

abbrev pub decreases-loop-done : goal.decreases-loop-done
decreases-loop-done g l = length l.dones.items
