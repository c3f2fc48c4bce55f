-- What parts have left, part by part.
use Rattle.std.proofs.Common.{List, [], ◌++◌, sym, append-nil}
use Rattle.serve_parts.specs.declared.serve_part.ServeDone.{ServeDone}
use Rattle.serve_parts.specs.Kinds.{actor_of, script_of, worker_of}
use Rattle.gate_ends.specs.Done.{worker_end}
use Rattle.gate_ends.proofs.Added.{one_more, one_more_of}
use Rattle.serve_run.specs.declared.ends.Ends.{Ends}
use Rattle.serve_run.specs.Sorted.{file_end, source_of, door_of, clock_of, Sorts}

module _ {S D C R : Type 0} where
  pub sorts_none : (e : Ends S D C R) → Sorts [] e e
  sorts_none e = record {
    actors = sym (append-nil e.actors.items);
    scripts = sym (append-nil e.scripts.items);
    workers = sym (append-nil e.workers.items);
    back = record {
      sources_are = sym (append-nil e.returned.sources.items);
      doors_are = sym (append-nil e.returned.doors.items);
      clocks_are = sym (append-nil e.returned.clocks.items);
    };
  }

  pub sorts_more : (xs ys : List (ServeDone S D C R)) (old mid new : Ends S D C R) → Sorts xs old mid → Sorts ys mid new → Sorts (xs ++ ys) old new
  sorts_more xs ys old mid new a b = record {
    actors = one_more actor_of xs ys old.actors.items mid.actors.items new.actors.items a.actors b.actors;
    scripts = one_more_of file_end script_of xs ys old.scripts.items mid.scripts.items new.scripts.items a.scripts b.scripts;
    workers = one_more_of worker_end worker_of xs ys old.workers.items mid.workers.items new.workers.items a.workers b.workers;
    back = record {
      sources_are = one_more source_of xs ys old.returned.sources.items mid.returned.sources.items new.returned.sources.items a.back.sources_are b.back.sources_are;
      doors_are = one_more door_of xs ys old.returned.doors.items mid.returned.doors.items new.returned.doors.items a.back.doors_are b.back.doors_are;
      clocks_are = one_more clock_of xs ys old.returned.clocks.items mid.returned.clocks.items new.returned.clocks.items a.back.clocks_are b.back.clocks_are;
    };
  }
