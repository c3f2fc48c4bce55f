-- What each worker of a run has done.
use Rattle.std.proofs.Common.{◌≡◌, ℕ, ◌+◌, List, length}
use Rattle.std.specs.List.{All, AllZip}
use Rattle.collections.specs.ById.{IsById}
use Rattle.edit_apply.specs.declared.Edit.{Edit}
use Rattle.edit_post.specs.Post.{PostId}
use Rattle.worker_run.specs.Histories.{wishes}
use Rattle.run_ends.specs.Logs.{HasPart}
use Rattle.gate_ends.specs.Ends.{WorkerServes}
use Rattle.gate_ends.specs.declared.ending.WorkerEnd.{WorkerEnd}
use Rattle.gate_ends.proofs.Served.{Served, readers, knew_none, knows_all}
use Rattle.gate_ends.proofs.Writers.{Writer, Log, guild_of, IsSealedOf}
use Rattle.serve_run.specs.Ends.{WorkerEnds}
use Rattle.serve_run.specs.Served.{WorkerRan}
use Rattle.serve_run.specs.Services.{Service}

module _ (s : Service) (posts : List PostId) (writers : List Writer) where
  pub serves : (n : ℕ) (e : WorkerEnd) → WorkerEnds s posts writers n e → WorkerServes posts writers (length s.files + n) e
  serves n e ends = ends.serves

  abbrev pub HasWorked : ℕ → WorkerEnd → Type 0
  HasWorked = Served posts writers (length s.files) (WorkerEnds s posts writers) serves

  pub one_ran : (ls : List Log) → AllZip IsSealedOf writers ls → IsById guild_of ls → (n : ℕ) (e : WorkerEnd) (wished : List (ℕ × Edit)) (w : HasWorked n e) → wishes w.history ≡ wished
      → All (HasPart ls) (readers e) → WorkerRan s ls n wished
  unfolding serves
  one_ran ls sealed up n e wished w is part = record {
    worker = w.is.serves.worker;
    is_new = w.is.is_new;
    door = w.is.door;
    door_is = w.is.door_is;
    history = w.history;
    before = w.is.serves.before;
    after = w.is.serves.after;
    door_before = w.is.door_before;
    clock_before = w.is.clock_before;
    report = w.report;
    works = w.works;
    unread = knew_none posts writers (length s.files) (WorkerEnds s posts writers) serves n e w;
    logs_are = knows_all posts writers (length s.files) (WorkerEnds s posts writers) serves ls sealed up n e w part;
    wished_are = is;
  }
