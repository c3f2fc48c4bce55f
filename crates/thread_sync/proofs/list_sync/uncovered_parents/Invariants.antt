use Rattle.std.proofs.Common.{◌≡◌, ℕ, take}
use Rattle.thread_sync.specs.Seen.{is_among}
use Rattle.thread_sync.specs.Sync.{uncovers}
use Rattle.thread_sync.proofs.list_sync.uncovered_parents.Given as goal

abbrev pub invariant-loop-thread : goal.invariant-loop-thread
invariant-loop-thread g l =
    (id : ℕ) → is_among l.parents id ≡ uncovers (g.B.Shows.shown l.before) (g.N.Shows.shown l.now) (take l.thread-index l.threads) id
