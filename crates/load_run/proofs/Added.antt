-- What parts have left, part by part.
use Rattle.std.proofs.Common.{List, [], ◌++◌, sym, append-nil}
use Rattle.load_parts.specs.declared.load_part.LoadDone.{LoadDone}
use Rattle.load_parts.specs.Kinds.{actor_of, script_of, worker_of, client_of}
use Rattle.gate_ends.specs.Done.{worker_end}
use Rattle.gate_ends.proofs.Added.{one_more, one_more_of}
use Rattle.load_run.specs.declared.sorting.Ends.{Ends}
use Rattle.load_run.specs.Ends.{clock_of_done}
use Rattle.load_run.specs.Sorted.{script_end, ended_of, Sorts}

module _ {C R : Type 0} where
  pub sorts_none : (e : Ends C R) → Sorts [] e e
  sorts_none e = record {
    actors = sym (append-nil e.actors.items);
    scripts = sym (append-nil e.scripts.items);
    workers = sym (append-nil e.workers.items);
    clients = sym (append-nil e.clients.items);
    clocks = sym (append-nil e.clocks.items);
  }

  pub sorts_more : (xs ys : List (LoadDone C R)) (old mid new : Ends C R) → Sorts xs old mid → Sorts ys mid new → Sorts (xs ++ ys) old new
  sorts_more xs ys old mid new a b = record {
    actors = one_more actor_of xs ys old.actors.items mid.actors.items new.actors.items a.actors b.actors;
    scripts = one_more_of script_end script_of xs ys old.scripts.items mid.scripts.items new.scripts.items a.scripts b.scripts;
    workers = one_more_of worker_end worker_of xs ys old.workers.items mid.workers.items new.workers.items a.workers b.workers;
    clients = one_more_of ended_of client_of xs ys old.clients.items mid.clients.items new.clients.items a.clients b.clients;
    clocks = one_more clock_of_done xs ys old.clocks.items mid.clocks.items new.clocks.items a.clocks b.clocks;
  }
