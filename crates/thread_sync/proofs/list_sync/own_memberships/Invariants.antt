use Rattle.std.proofs.Common.{◌≡◌, map, take}
use Rattle.std.specs.List.{filter_map}
use Rattle.thread_sync.specs.Sync.{own_membership}
use Rattle.thread_sync.proofs.list_sync.own_memberships.Given as goal

abbrev pub invariant-loop-thread : goal.invariant-loop-thread
invariant-loop-thread l = l.members ≡ filter_map (own_membership l.user) (map (λ thread. thread.now) (take l.thread-index l.threads))
